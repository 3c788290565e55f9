use Rattle.std.proofs.Common.{◌≡◌, ◌+◌, ◌-◌, ◌<◌, ◌≤◌, [], ◌∷◌, ◌++◌, true, not, inr, length, vec_len, ap, ◌∙◌, arith}
use Rattle.std.specs.Prelude.{is_ok, slice_range}
use Rattle.ptu_messages.specs.{Tlv.{BeginsWithTlv}, TlvFault.{HasTlvFault}}
use Rattle.ptu_messages.proofs.Cuts.{length-slice_range, slice_range-drop}
use Rattle.ptu_messages.proofs.Tlvs.{ends_full, ends_faulty, goes_on, is_done}
use Rattle.ptu_messages.proofs.reading.read_tlvs.Goals as goal

pub returns-then-len-eq-MOST_TLVS : goal.returns-then-len-eq-MOST_TLVS
returns-then-len-eq-MOST_TLVS c =
    let at = c.loop-at.at in
    let rest = slice_range c.args.bytes.now at c.args.end in
    let some : 0 < length rest = omega (arith, length-slice_range c.args.bytes.now at c.args.end c.requires.within, c.loop-at-test.true) in
    inr (ends_full c.loop-at.tlvs.items (vec_len c.loop-at.tlvs) at rest _ (omega (arith, c.len.ensures, c.if-len-eq-MOST_TLVS.true)) some c.loop-at.invariant.3)

pub returns-in-Err : goal.returns-in-Err
returns-in-Err c =
    let at = c.loop-at.at in
    let rest = slice_range c.args.bytes.now at c.args.end in
    let some : 0 < length rest = omega (arith, length-slice_range c.args.bytes.now at c.args.end c.requires.within, c.loop-at-test.true) in
    let few : vec_len c.loop-at.tlvs < 32 = omega (arith, c.len.ensures, c.if-len-eq-MOST_TLVS.false, c.loop-at.invariant.2) in
    let fault : HasTlvFault rest c.in-Err.fault = c.in-Err.ensures.faulty in
    inr (ends_faulty c.loop-at.tlvs.items (vec_len c.loop-at.tlvs) at rest _ c.in-Err.fault few some fault c.loop-at.invariant.3)

pub loop-at-preserved : goal.loop-at-preserved
loop-at-preserved c =
    let at = c.loop-at.at in
    let size = c.in-Ok.read.1 in
    let tlv = c.in-Ok.read.0 in
    let rest = slice_range c.args.bytes.now at c.args.end in
    let long = length-slice_range c.args.bytes.now at c.args.end c.requires.within in
    let some : 0 < length rest = omega (arith, long, c.loop-at-test.true) in
    let few : vec_len c.loop-at.tlvs < 32 = omega (arith, c.len.ensures, c.if-len-eq-MOST_TLVS.false, c.loop-at.invariant.2) in
    let begins : BeginsWithTlv rest tlv size = c.in-Ok.ensures.spelled in
    let within : at + size ≤ c.args.end = omega (arith, long, begins.within, c.loop-at-test.true) in
    let ok : is_ok c.push.result ≡ true = c.is_err-in-loop-at.ensures.negation ∙ ap not c.if-is_err-2.false in
    let items : c.push.new.self.items ≡ c.loop-at.tlvs.items ++ tlv ∷ [] = rw ok at c.push.ensures.items in
    let len : vec_len c.push.new.self ≡ vec_len c.loop-at.tlvs + 1 = rw ok at c.push.ensures.len in
    let next = goes_on c.loop-at.tlvs.items (vec_len c.loop-at.tlvs) at rest _ tlv size few some begins c.loop-at.invariant.3 in (
      omega (arith, c.loop-at.invariant.0),
      within,
      omega (arith, len, few),
      rw (items, len, ← slice_range-drop c.args.bytes.now at size c.args.end within) next,
    )

pub returns : goal.returns
returns c =
    let at = c.loop-at.at in
    let rest = slice_range c.args.bytes.now at c.args.end in
    let none : length rest ≡ 0 = omega (arith, length-slice_range c.args.bytes.now at c.args.end c.requires.within, c.loop-at-test.false) in
    is_done c.loop-at.tlvs.items (32 - vec_len c.loop-at.tlvs) at rest _ none c.loop-at.invariant.3
