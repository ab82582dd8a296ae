-- Where the keys of a ring that serve offer nothing, none serves: each of p9sk1 names a domain.
use Rattle.std.proofs.Common.{◌≡◌, ℕ, suc, ◌+◌, ◌≤◌, List, [], ◌∷◌, length, map, Bool, true, false, cond, ltb, leb, codes, Option, Some, None, refl, sym, ap, subst, ◌∙◌, arith}
use Rattle.std.specs.Prelude.{filter, is_some}
use Rattle.std.specs.List.{cons_option, join_with_byte, list_all}
use Rattle.std.proofs.lemmas.Bool.{and_parts, leb-true, lt-ltb}
use Rattle.attr_tuples.specs.declared.attr.Attr.{Attr}
use Rattle.attr_tuples.specs.Forms.{is_dom, is_dom_byte}
use Rattle.attr_tuples.specs.Matching.{holds, matches, meets, value_of}
use Rattle.attr_tuples.proofs.FormLaws.{given_is_held}
use Rattle.key_lists.specs.KeyFaults.{is_p9sk1}
use Rattle.key_lists.specs.Lists.{KeyEntry, KeyList, serves}
use Rattle.key_lists.specs.Listing.{doms_of, each_once, fitting, most_offered, offer_of, offers, offers_text}
use Rattle.key_ring.proofs.KeyLemmas.{good_dom, has_dom}
use Rattle.roles.specs.Templates.{given_as}
use Rattle.talks.specs.Searches.{offered_by, serving}
use Rattle.driven_agents.specs.Keys.{AreKeys}

-- a template that asks for a key of p9sk1
abbrev pub for_p9sk1 : List Attr → List Attr
for_p9sk1 more = given_as (codes "proto") (codes "p9sk1") ∷ more

p9sk1_key : (more : List Attr) (role : List ℕ) (key : KeyEntry) → serves (for_p9sk1 more) role key ≡ true → is_p9sk1 key.tuple ≡ true
unfolding matches
p9sk1_key more role key is =
    let all = (and_parts (matches (for_p9sk1 more) key.tuple) _ is).0 in
    let first = (and_parts (holds key.tuple (given_as (codes "proto") (codes "p9sk1"))) (list_all (λ a. meets key.tuple a.name a.value) more) all).0 in
    given_is_held (codes "proto") (codes "p9sk1") key.tuple ∙ first

-- the first domain is short
abbrev pub DomsFit : List (List ℕ) → Type 0
DomsFit [] = Unit {0}
DomsFit (dom ∷ doms) = length dom ≤ 47

pub dom_short : (dom : List ℕ) → is_dom dom ≡ true → length dom ≤ 47
dom_short dom is =
    let parts = and_parts (leb 1 (length dom)) _ is in
    leb-true (length dom) 47 (and_parts (leb (length dom) 47) (list_all is_dom_byte dom) parts.1).0

-- of the keys that serve the first gives its domain
abbrev Gives : List Attr → List ℕ → List KeyEntry → Type 0
Gives template role keys = DomsFit (doms_of template role keys) × (doms_of template role keys ≡ [] → filter (serves template role) keys ≡ [])

gives_doms : (more : List Attr) (role : List ℕ) (keys : List KeyEntry) → AreKeys keys → Gives (for_p9sk1 more) role keys
gives_doms more role [] are = (tt, λ e. refl)
gives_doms more role (key ∷ keys) are = by_key (serves (for_p9sk1 more) role key) refl (value_of (codes "dom") key.tuple) refl (gives_doms more role keys are.1)
  where
    by_key : (b : Bool) → serves (for_p9sk1 more) role key ≡ b → (o : Option (List ℕ)) → value_of (codes "dom") key.tuple ≡ o → Gives (for_p9sk1 more) role keys
        → DomsFit (cons_option (cond b o None) (doms_of (for_p9sk1 more) role keys)) × (cons_option (cond b o None) (doms_of (for_p9sk1 more) role keys) ≡ [] → cond b (key ∷ filter (serves (for_p9sk1 more) role) keys) (filter (serves (for_p9sk1 more) role) keys) ≡ [])
    by_key true is (Some dom) there rest = (dom_short dom (good_dom key.tuple dom are.0.rules there), λ e. absurd cc)
    by_key true is None there rest = absurd (let no_way : false ≡ true = sym (ap is_some there) ∙ has_dom key.tuple are.0.rules (p9sk1_key more role key is) in cc)
    by_key false is o there rest = rest

nothing_joined : (b : ℕ) (bytes : List ℕ) (words : List (List ℕ)) → join_with_byte 32 ((b ∷ bytes) ∷ words) ≡ [] → ⊥
nothing_joined b bytes [] e = cc
nothing_joined b bytes (word ∷ words) e = cc

sucs : (n : ℕ) → suc (suc (suc (suc (suc (suc n))))) ≡ 6 + n
sucs n = omega arith

offer_long : (dom : List ℕ) → length (offer_of dom) ≡ 6 + length dom
offer_long dom = sucs (length dom)

fits_first : (b : Bool) (offer : List ℕ) (more : List (List ℕ)) → b ≡ true → join_with_byte 32 (cond b ((112 ∷ offer) ∷ more) []) ≡ [] → ⊥
fits_first true offer more is e = nothing_joined 112 offer more e
fits_first false offer more is e = absurd cc

offers_some : (dom : List ℕ) (doms : List (List ℕ)) → length dom ≤ 47 → offers_text (fitting most_offered (map offer_of (each_once (dom ∷ doms)))) ≡ [] → ⊥
unfolding offers_text
offers_some dom doms short e =
    let room : ltb (length (offer_of dom)) most_offered ≡ true = lt-ltb (length (offer_of dom)) most_offered (omega (arith, short, offer_long dom)) in
    fits_first (ltb (length (offer_of dom)) most_offered) _ _ room e

pub none_serves : (more : List Attr) (role : List ℕ) (list : KeyList) → AreKeys list.keys → offered_by (for_p9sk1 more) role list ≡ [] → serving (for_p9sk1 more) role list ≡ []
unfolding offers
none_serves more role list are e = by_doms (doms_of (for_p9sk1 more) role list.keys) refl (gives_doms more role list.keys are)
  where
    by_doms : (doms : List (List ℕ)) → doms_of (for_p9sk1 more) role list.keys ≡ doms → Gives (for_p9sk1 more) role list.keys → serving (for_p9sk1 more) role list ≡ []
    by_doms [] is gives = gives.1 is
    by_doms (dom ∷ doms) is gives =
        let short : length dom ≤ 47 = subst DomsFit is gives.0 in
        absurd (offers_some dom doms short (sym (ap (λ ds. offers_text (fitting most_offered (map offer_of (each_once ds)))) is) ∙ e))
