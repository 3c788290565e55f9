use Rattle.std.proofs.Common.{◌≡◌, ◌+◌, ◌++◌, ℕ, List, take, drop, ap, sym, ◌∙◌, Some, refl}
use Rattle.std.proofs.lemmas.List.{take-append-drop, drop-drop, take_rest}
use Rattle.ptu_outside.proofs.mem_source.MemSourceSource.read.Goals as goal

-- what was taken of the rest, and what is left after it, are the rest
taken_from : (bytes front : List ℕ) (at n : ℕ) → front ≡ take n (drop at bytes) → drop at bytes ≡ front ++ drop (at + n) bytes
taken_from bytes front at n e = rw (e, ← drop-drop n at bytes, take-append-drop n (drop at bytes)) refl

pub returns-clause-taken : goal.returns-clause-taken
returns-clause-taken c =
    let bytes = c.self.inside.bytes.items in
    ap Some (ap (λ s. s.left) (sym c.self.view_is) ∙ taken_from bytes _ c.self.inside.at c.copy_front-taken.result (rw (take_rest, c.deref-2.ensures.value) at c.copy_front-taken.ensures.copied))
