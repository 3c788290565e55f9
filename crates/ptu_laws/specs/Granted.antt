-- Which verdicts grant an ask, and which find no room for it (IEEE 1588-2019 clause 16.1.4).
use Rattle.std.specs.Prelude.{Bool, true, false}
use Rattle.ptu_history.specs.Verdict.{Verdict, GrantedFor, ShortOf}

-- the ask is granted
abbrev pub is_granted : Verdict → Bool
is_granted (GrantedFor k l seconds until) = true
is_granted _ = false

-- the ask is within the profile and does not fit
abbrev pub is_short : Verdict → Bool
is_short (ShortOf k l others rate capacity) = true
is_short _ = false
