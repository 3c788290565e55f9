use Rattle.std.proofs.Common.{ℕ, ◌<◌, List, Fits, w8, get_or, arith}
use Rattle.ptu_slave_messages.proofs.Codes.{fits_reply}
use Rattle.ptu_slave_messages.proofs.receiving.receive.Goals as goal

octet : (os : List ℕ) (i : ℕ) → Fits w8 (get_or os i 0) → get_or os i 0 < 256
octet os i fits = omega (arith, fits)

pub returns-clause-reply : goal.returns-clause-reply
returns-clause-reply c =
    let spelled = rw c.in-Ok.is at c.in_ok-message.ensures.spelled in
    rw c.in_ok-content.ensures.content (fits_reply c.args.bytes.now c.args.config.now.wants c.in-Ok.message (λ i. octet c.args.bytes.now i (c.type_inv.bytes i)) spelled)
