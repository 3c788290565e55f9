-- Items that are gathered from TLVs one after the other.
use Rattle.std.proofs.Common.{◌≡◌, ℕ, ◌+◌, ◌<◌, ◌≤◌, ◌++◌, List, [], ◌∷◌, length, get_or, take, sym, ap, ◌∙◌, append_assoc}
use Rattle.std.specs.List.{cons_option}
use Rattle.std.proofs.lemmas.List.{append-nil, take_all, take_more}
use Rattle.std.proofs.lemmas.List.Elements.{filter_map-append}
use Rattle.ptu_messages.specs.declared.tlv.Tlv.{Tlv}
use Rattle.ptu_gm_messages.specs.{declared.item.Item.{Item}, Items.{item_of, items_among}}

pub gathered_none : (before : List Item) (tlvs : List Tlv) → before ≡ before ++ items_among (take 0 tlvs)
gathered_none before tlvs = sym (append-nil before)

pub gathered_more : (before now new : List Item) (tlvs : List Tlv) (i : ℕ) (d : Tlv) → i < length tlvs → now ≡ before ++ items_among (take i tlvs)
    → new ≡ now ++ cons_option (item_of (get_or tlvs i d)) [] → new ≡ before ++ items_among (take (i + 1) tlvs)
gathered_more before now new tlvs i d lt so_far more =
    let tlv : Tlv = get_or tlvs i d in
    more ∙ ap (λ items. items ++ cons_option (item_of tlv) []) so_far
    ∙ append_assoc before (items_among (take i tlvs)) (cons_option (item_of tlv) [])
    ∙ ap (λ items. before ++ items) (sym (filter_map-append item_of (take i tlvs) (tlv ∷ [])))
    ∙ ap (λ ts. before ++ items_among ts) (sym (take_more tlvs i d lt))

pub gathered_all : (before now : List Item) (tlvs : List Tlv) (i : ℕ) → length tlvs ≤ i → now ≡ before ++ items_among (take i tlvs) → now ≡ before ++ items_among tlvs
gathered_all before now tlvs i le so_far = so_far ∙ ap (λ ts. before ++ items_among ts) (take_all i tlvs le)
