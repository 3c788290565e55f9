-- A document that names neither the control port nor its key.
use Rattle.std.proofs.Common.{◌≡◌, ◌∙◌, ◌&&◌, ◌||◌, List, [], ◌∷◌, ◌++◌, ℕ, if◌then◌else◌, cond, Bool, true, false, Some, None, Ordering, Less, Equal, Greater, option_map, refl, sym, ap}
use Rattle.std.specs.{Cmp.Lexicographic.{slice_cmp}, Ordering.{is_eq, match_ordering, nat_cmp}, List.{find, list_any}, Prelude.{is_none}, Str.{bytes_eq}}
use Rattle.std.proofs.lemmas.{Map.Text.{is_eq-slice_cmp}, Slice.Eq.{bytes_eq-Decides}}
use Rattle.toml.specs.Data.{Data, Members, no_members, member, get_member}
use Rattle.ptu_config.specs.declared.{fault.SettingFault.TheVariants.{Unknown, Bad}, key.Key.{Key}, key.Key.TheVariants.{ControlPort, ControlKey}}
use Rattle.ptu_config.specs.{Documents.{first_bad, is_name_of, table_refusal}, Forms.{has_only}, Key.{name_of}}
use Rattle.ptu_config.specs.Rules.{gm_keys, nothing, serving_keys, setting_of}

pub says_nothing : (document : Members) → get_member (name_of ControlPort) document ≡ None → get_member (name_of ControlKey) document ≡ None →
    (setting_of document ControlPort ≡ Some nothing) × (setting_of document ControlKey ≡ Some nothing)
unfolding setting_of
says_nothing document port key = (rw port refl, rw (port, key) refl)

-- two more that do not pass a test change neither the first that does, nor whether one does
same_first : (test : Key → Bool) (keys : List Key) (a b : Key) → test a ≡ false → test b ≡ false →
    find test (keys ++ a ∷ b ∷ []) ≡ find test keys
same_first test [] a b first second = rw (first, second) refl
same_first test (key ∷ keys) a b first second = ap (λ more. cond (test key) (Some key) more) (same_first test keys a b first second)

same_any : (test : Key → Bool) (keys : List Key) (a b : Key) → test a ≡ false → test b ≡ false →
    list_any test (keys ++ a ∷ b ∷ []) ≡ list_any test keys
same_any test [] a b first second = rw (first, second) refl
same_any test (key ∷ keys) a b first second = ap (λ more. test key || more) (same_any test keys a b first second)

other_way : (name key : List ℕ) → bytes_eq key name ≡ false → bytes_eq name key ≡ false
other_way name key other = by (bytes_eq name key) refl
  where
    by : (same : Bool) → bytes_eq name key ≡ same → same ≡ false
    by false is = refl
    by true is =
        let again : bytes_eq key name ≡ true = (bytes_eq-Decides key name).1 (sym ((bytes_eq-Decides name key).0 is)) in
        sym again ∙ other

-- a key that is not there is not the first one, and not in the rest
absent : (key name : List ℕ) (value : Data) (rest : Members) → get_member key (member name value rest) ≡ None →
    (bytes_eq name key ≡ false) × (get_member key rest ≡ None)
absent key name value rest none = by (slice_cmp nat_cmp key name) refl none
  where
    by : (order : Ordering) → slice_cmp nat_cmp key name ≡ order → match_ordering order (get_member key rest) (Some value) (get_member key rest) ≡ None →
        (bytes_eq name key ≡ false) × (get_member key rest ≡ None)
    by Less is none' = (other_way name key (sym (is_eq-slice_cmp key name) ∙ ap is_eq is), none')
    by Equal is none' = cc
    by Greater is none' = (other_way name key (sym (is_eq-slice_cmp key name) ∙ ap is_eq is), none')

same_names : (document : Members) → get_member (name_of ControlPort) document ≡ None → get_member (name_of ControlKey) document ≡ None →
    has_only (is_name_of gm_keys) document ≡ has_only (is_name_of serving_keys) document
same_names no_members port key = refl
same_names (member name value rest) port key =
    let no_port = absent (name_of ControlPort) name value rest port in
    let no_key = absent (name_of ControlKey) name value rest key in
    ap (λ first. first && has_only (is_name_of gm_keys) rest)
    (same_any (λ other. bytes_eq name (name_of other)) serving_keys ControlPort ControlKey no_port.0 no_key.0)
    ∙ ap (λ more. is_name_of serving_keys name && more) (same_names rest no_port.1 no_key.1)

pub refused_as_before : (document : Members) → get_member (name_of ControlPort) document ≡ None → get_member (name_of ControlKey) document ≡ None →
    table_refusal gm_keys document ≡ table_refusal serving_keys document
refused_as_before document port key =
    let said = says_nothing document port key in
    let bad : first_bad gm_keys document ≡ first_bad serving_keys document =
    same_first (λ other. is_none (setting_of document other)) serving_keys ControlPort ControlKey (ap is_none said.0) (ap is_none said.1) in
    ap (λ only. if only then option_map Bad (first_bad gm_keys document) else Some Unknown) (same_names document port key)
    ∙ ap (λ found. if has_only (is_name_of serving_keys) document then option_map Bad found else Some Unknown) bad
