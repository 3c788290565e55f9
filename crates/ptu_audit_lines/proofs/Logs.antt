-- A logarithm that is read in a wide range first.
use Rattle.std.proofs.Common.{◌≡◌, ℕ, List}
use Rattle.std.specs.Prelude.{pos, option_and_then}
use Rattle.ptu_units.specs.declared.kind.Kind.{Kind}
use Rattle.ptu_units.specs.Log.{least_log}
use Rattle.ptu_lines.specs.Words.{int_within}
use Rattle.ptu_lines.proofs.Logs as logs
use Rattle.ptu_audit_lines.specs.Words.{log_of_kind, octet_log}

-- the range of a kind is within that of an octet
pub log_of_kind_wide : (kind : Kind) (word : List ℕ) → option_and_then (int_within (least_log kind) (pos 4)) (octet_log word) ≡ log_of_kind kind word
unfolding log_of_kind octet_log
log_of_kind_wide kind word = logs.log_of_kind_wide kind word
