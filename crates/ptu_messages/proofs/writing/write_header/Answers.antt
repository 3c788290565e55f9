use Rattle.ptu_messages.proofs.HeaderSending.{sent_header_spells}
use Rattle.ptu_messages.proofs.writing.write_header.Goals as goal

pub returns-clause-again : goal.returns-clause-again
returns-clause-again c =
    rw c.sent.ensures.octets (sent_header_spells c.args.header.now c.args.length c.sent.ensures.widths c.requires.least c.ranges.length.fits)
