use Rattle.std.proofs.Common.{◌∷◌, [], ℕ, ◌+◌, ◌*◌, List, false, get_or, ◌<◌, arith, slice_index_or, slice_set, subst, sym}
use Rattle.ptu_units.specs.Number.{high_nibble_at}
use Rattle.ptu_outside.specs.declared.channel.Channel.TheVariants.{General}
use Rattle.ptu_outside.specs.HandsOver.{HandsOver, failed_in, sent_in}
use Rattle.ptu_daemon.proofs.{Handing.{hands_both}, Steps.{sync_is, flag_fits}}
use Rattle.ptu_daemon.proofs.two_step.hand_pair.Goals as goal

pub copy_from_slice-requires : goal.copy_from_slice-requires
copy_from_slice-requires g c = sym (sync_is false c.args.channel c.args.bytes.now c.requires).long

pub overflow_add-octets : goal.overflow_add-octets
overflow_add-octets g c =
    let octets = c.args.bytes.now in
    let six : get_or octets 6 0 < 256 = omega (arith, c.type_inv.bytes 6) in
    rw c.copy_from_slice.ensures.after (omega (arith, flag_fits octets (sync_is false c.args.channel octets c.requires) six))

pub returns : goal.returns
returns g c =
    let ip = c.args.ip in
    let sync = subst (λ (o : List ℕ). HandsOver g.P.Port c.args.port.now c.hand-sync.new.port
    (record { ip = ip; channel = c.args.channel; bytes = slice_set o 6 (slice_index_or o 6 0 + 2) } ∷ [])
    (sent_in c.hand-sync.result) (failed_in c.hand-sync.result)) c.copy_from_slice.ensures.after c.hand-sync.ensures in
    let follow_up = subst (λ (o : List ℕ). HandsOver g.P.Port c.hand-sync.new.port c.hand-follow_up.new.port
    (record { ip = ip; channel = General; bytes = slice_set (slice_set o 0 (16 * high_nibble_at c.args.bytes.now 0 + 8)) 32 2 } ∷ [])
    (sent_in c.hand-follow_up.result) (failed_in c.hand-follow_up.result)) c.copy_from_slice-2.ensures.after
    (subst (λ (n : ℕ). HandsOver g.P.Port c.hand-sync.new.port c.hand-follow_up.new.port
    (record { ip = ip; channel = General; bytes = slice_set (slice_set c.copy_from_slice-2.new.self 0 (16 * n + 8)) 32 2 } ∷ [])
    (sent_in c.hand-follow_up.result) (failed_in c.hand-follow_up.result)) c.high_nibble.ensures.value c.hand-follow_up.ensures) in
    rw c.and.ensures (hands_both g.P.Port _ _ _ _ _ c.hand-sync.result c.hand-follow_up.result sync follow_up)
