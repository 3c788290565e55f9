use Rattle.ptu_history.proofs.Verdicts.{profile-no_kind, profile-no_log, profile-too_short, profile-within, verdict-granted, verdict-outside, verdict-short}
use Rattle.ptu_history.proofs.laws.verdicts.Goals as goal

pub returns : goal.returns
returns _ = search (verdict-granted, verdict-short, verdict-outside, profile-no_kind, profile-no_log, profile-too_short, profile-within)
