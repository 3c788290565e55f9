-- What may be kept of a master's record in place of it to know when a kind is asked for, and what one entry more makes of it. Laws say that it is so.
use Rattle.std.specs.Prelude.{ℕ, ◌+◌, ◌*◌, ◌%◌, cond, [], ◌∷◌, length, flat_map, Option, None, is_some, option_map, option_to_list, unwrap_or}
use Rattle.ptu_units.specs.{declared.kind.Kind.{Kind}, Time.{second}}
use Rattle.ptu_record.specs.{Lists.{last, maximum, newest_of}, Record.{Entry, Record}}
use Rattle.ptu_record.specs.Grants.{grant, grant_change, is_live_at}
use Rattle.ptu_record.specs.Asks.{ask_moment, is_answer, open_asks, pause, refusal_moment, refusals}

-- of one kind: how many asks have no answer, modulo 3, and the moment of the last of them; the moment of the last denial or CANCEL; the grant that no CANCEL and no stop ended, with its seconds
pub record KindState : Type 0 where
  pub unanswered : ℕ
  pub asked : Option ℕ
  pub refused : Option ℕ
  pub granted : Option (ℕ × ℕ)

-- what the record of a master comes to for the kind
abbrev pub kind_state : Kind → Record → KindState
kind_state k L = record {
  unanswered = length (open_asks k L) % 3;
  asked = last (open_asks k L);
  refused = last (refusals k L);
  granted = grant k L;
}

-- one entry of the master more
abbrev pub kind_state_after : Kind → KindState → Entry → KindState
kind_state_after k kept e = record {
  unanswered = cond (is_answer k e) 0 ((kept.unanswered + cond (is_some (ask_moment k e)) 1 0) % 3);
  asked = cond (is_answer k e) None (newest_of (ask_moment k e) kept.asked);
  refused = newest_of (refusal_moment k e) kept.refused;
  granted = unwrap_or (grant_change k e) kept.granted;
}

-- half of the duration of the grant, where it is live
abbrev pub renewal_moment : Option (ℕ × ℕ) → ℕ → Option ℕ
renewal_moment granted t = cond (is_live_at granted t) (option_map (λ g. g.0 + g.1 * 500000000) granted) None

-- the gate of the next ask: the greatest of the moments that it waits for, or 0 where there is none
abbrev pub gate_at : KindState → ℕ → ℕ
gate_at kept t = maximum (flat_map option_to_list (
    option_map (λ at. at + pause kept.unanswered) kept.asked
    ∷ option_map (λ at. at + 60 * second) kept.refused
    ∷ renewal_moment kept.granted t ∷ []))
