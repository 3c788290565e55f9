use Rattle.std.proofs.{Common.{sym}, lemmas.Result.{err_from_is_err_and}}
use Rattle.ptu_messages.proofs.HeaderReadings.{header_in-spelled, header_in-faulty}
use Rattle.ptu_messages.proofs.header_reading.read_header.Goals as goal

pub returns-in_err-length-clause-value : goal.returns-in_err-length-clause-value
returns-in_err-length-clause-value c =
    let p = err_from_is_err_and c.from_residual.result c.from_residual.ensures.1 in
    rw (p.1, p.2) (sym (header_in-faulty c.args.bytes.now c.in_err-length.field-0.0 c.in_err-length.ensures))

pub returns-clause-value : goal.returns-clause-value
returns-clause-value c =
    sym (header_in-spelled c.args.bytes.now c.kept_fields.result c.in_ok-length.length (record { message = c.in_ok-length.ensures; fields = c.kept_fields.ensures }))

pub returns-clause-nothing : goal.returns-clause-nothing
returns-clause-nothing c = (
  (λ err. absurd cc),
  (λ none. absurd (none c.kept_fields.result c.in_ok-length.length (record { message = c.in_ok-length.ensures; fields = c.kept_fields.ensures }))),
)
