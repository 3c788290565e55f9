-- Small reports, and what an audit answers to them, made out by hand (IEEE 1588-2019 clauses 13.12 and 16.1.4).
use Rattle.std.specs.Prelude.{ℕ, zero, suc, List, [], ◌∷◌, ◌++◌, codes, Option, option_map}
use Rattle.std.specs.List.{flat_map}
use Rattle.ptu_audit.specs.declared.answer.Answer.{Answer}
use Rattle.ptu_audit.specs.{Audited.{report_lines}, Trails.{audit_answer_of}}

-- the answer to these lines, of grandmasters that begin with the capacity, where no line is refused
abbrev pub answer : ℕ → List (List ℕ) → Option Answer
answer capacity lines = option_map (audit_answer_of capacity) (report_lines capacity (flat_map (λ line. line ++ 10 ∷ []) lines))

-- so often
abbrev pub times : {A : Type 0} → ℕ → List A → List A
times zero xs = []
times (suc n) xs = xs ++ times n xs

-- the grandmaster 10.0.0.1 sends a Signaling with these digits of its messageLength and of its TLVs, to the client 10.0.1.17
abbrev pub signaling_hex : List ℕ → List ℕ → List ℕ
signaling_hex length tlvs =
    codes "2 send 1 10.0.0.1 10.0.1.17 general 0c12" ++ (length ++ (codes "040004000000000000000000000000000a000000000000010001"
    ++ (codes "0000057f0a000000000000110001" ++ tlvs)))

-- a decision, and the GRANT that answers it, under the capacity 16
abbrev pub decided : List ℕ → List ℕ → Option Answer
decided decision tlv = answer 16 (decision ∷ signaling_hex (codes "0038") tlv ∷ codes "end 2 1" ∷ [])

-- a decision on a CANCEL, and the acknowledgement that answers it
abbrev pub ended : List ℕ → List ℕ → Option Answer
ended decision tlv = answer 16 (decision ∷ signaling_hex (codes "0032") tlv ∷ codes "end 2 1" ∷ [])

-- Syncs each second are granted for 300 s
abbrev pub sync_lines : List ℕ
sync_lines = codes "2 granted sync 0 at 0 until 300000000000"

abbrev pub syncs_grant : List ℕ
syncs_grant = codes "0005000800000000012c0001"

-- that grant is shed at 5 ns, and this line tells of it
abbrev pub shed : List ℕ → Option Answer
shed told = answer 16 (
    sync_lines ∷ signaling_hex (codes "0038") syncs_grant ∷ codes "3 capacity 10.0.0.1 8 at 5"
    ∷ codes "3 shed sync 0 10.0.1.17 0a00000000000011/1" ∷ told ∷ codes "end 3 2" ∷ [])

-- the CANCEL of the code to that client's address and identity, or to another one
abbrev pub notice : List ℕ → List ℕ → List ℕ → List ℕ
notice addresses identity tlv =
    codes "3 send 2 " ++ (addresses ++ (codes " general 0c120032040004000000000000000000000000000a0000000000000100010000057f" ++ (identity ++ tlv)))

-- so many denials in one group, with these digits of messageLength
abbrev pub denied_often : ℕ → List ℕ → Option Answer
denied_often n length = answer 16 (
    times n (codes "2 outside duration sync 0 30" ∷ [])
    ++ (signaling_hex length (times n (codes "000500080000000000000000")) ∷ codes "end 2 1" ∷ []))
