-- Datagrams and inputs that were made out by hand, and what is shown of them.
use Rattle.std.specs.Prelude.{◌≡◌, [], ◌∷◌, ◌++◌, codes, take, drop, pos, negsuc, true, false}
use Rattle.hex.specs.Hex.{encode_lower}
use Rattle.ptu_messages.specs.Samples.{announce, delay_req, delay_resp}
use Rattle.ptu_report.specs.declared.ending.Ending.TheVariants.{Whole, Refused}
use Rattle.ptu_lines.specs.declared.cause.LineCause.TheVariants.{Field, Text}
use Rattle.ptu_script.specs.declared.cause.Cause.TheVariants.{Line}
use Rattle.ptu_messages.specs.declared.tlv.Tlv.TheVariants.{Request, Grant, Cancel, Ack, Other}
use Rattle.ptu_show.specs.{Datagram.{datagram_text, tlv_text}, Shown.{shown, shown_ending}}

-- each type with its own rest, and a fault in place of what does not read
abbrev pub DatagramsAreShown : Type 0
DatagramsAreShown =
    (datagram_text delay_req
    ≡ codes "delay_req length 44 domain 4 from 0a00000000000011/1 seq 7 stamp 0 0")
    × (datagram_text delay_resp
    ≡ codes "delay_resp length 54 domain 4 from 0a00000000000001/1 seq 7 stamp 10 300 to 0a00000000000011/1")
    × (datagram_text announce
    ≡ codes "announce length 64 domain 4 from 0a00000000000001/1 seq 0 class 84 steps 0 grandmaster 0a00000000000001")
    × (datagram_text (8 ∷ drop 1 delay_req)
    ≡ codes "follow_up length 44 domain 4 from 0a00000000000011/1 seq 7 stamp 0 0")
    × (datagram_text (3 ∷ drop 1 delay_req)
    ≡ codes "type 3 length 44 domain 4 from 0a00000000000011/1 seq 7")
    × (datagram_text (take 63 announce) ≡ codes "fault length 64 63")
    × (datagram_text (take 33 announce) ≡ codes "fault short 33")
    × (datagram_text [] ≡ codes "fault short 0")

-- each TLV with its numbers, and R at the end of a grant
abbrev pub TlvsAreShown : Type 0
TlvsAreShown =
    (tlv_text (Request (record { code = 11; log = pos 1; seconds = 300 }))
    ≡ codes " request 11 1 300")
    × (tlv_text (Grant (record { code = 0; log = negsuc 6; seconds = 300 }) true)
    ≡ codes " grant 0 -7 300 1")
    × (tlv_text (Grant (record { code = 9; log = pos 0; seconds = 0 }) false)
    ≡ codes " grant 9 0 0 0")
    × (tlv_text (Cancel 11) ≡ codes " cancel 11")
    × (tlv_text (Ack 0) ≡ codes " ack 0")
    × (tlv_text (Other 12288 2) ≡ codes " other 12288 2")

-- lines that do nothing count; the first line that is refused ends the output; the last may lack
-- its 0A
abbrev pub InputsAreShown : Type 0
InputsAreShown =
    (shown [] ≡ codes "end 0\n")
    × (shown (codes "# note\n\n-") ≡ codes "3 fault short 0\nend 3\n")
    × (shown (encode_lower (take 33 announce) ++ codes "\n") ≡ codes "1 fault short 33\nend 1\n")
    × (shown (codes "0c1\n-\n") ≡ codes "1 bad field 1\n")
    × (shown (codes "-\n0c 12\n") ≡ codes "1 fault short 0\n2 bad field 1\n")
    × (shown (codes "#\t\n") ≡ codes "1 bad text\n")
    × (shown_ending (codes "\n") ≡ Whole 1)
    × (shown_ending (codes "\n0c1") ≡ Refused 2 (Line (Field 1)))
    × (shown_ending (codes "#\t\n") ≡ Refused 1 (Line Text))
