-- A template asked fits a tuple, and its steps are its parts.
use Rattle.std.proofs.Common.{◌≡◌, ℕ, ◌≤◌, List, [], ◌∷◌, ◌++◌, true, false, not, length, codes, is_some, Option, Some, None, refl, ap, append_assoc, arith, inl, inr}
use Rattle.std.specs.List.{filter}
use Rattle.std.specs.Str.{is_utf8, chars}
use lib.Utf8.{encode}
use Rattle.std.proofs.lemmas.Bool.{leb-true, cases_Bool}
use Rattle.wire_base.specs.Texts.{is_text}
use Rattle.attr_tuples.specs.declared.attr.Attr.{Attr}
use Rattle.attr_tuples.specs.Attributes.{is_name, is_named}
use Rattle.roles.specs.Starts.{fits_start}
use Rattle.roles.specs.declared.stage.Role.{Role}
use Rattle.roles.specs.declared.stage.Role.TheVariants.{Client, Server, Speakfor}
use Rattle.roles.specs.Templates.{asked, ask_dom_part, dom_part, given_as, is_other, others_part, user_part}

pub proto_is_name : is_name (codes "proto") ≡ true
unfolding is_text is_utf8 chars encode
proto_is_name = refl

pub dom_is_name : is_name (codes "dom") ≡ true
unfolding is_text is_utf8 chars encode
dom_is_name = refl

pub user_is_name : is_name (codes "user") ≡ true
unfolding is_text is_utf8 chars encode
user_is_name = refl

-- ---- there is room for all

other_no_dom : (role : Role) (a : Attr) → is_other role a ≡ true → not (is_named (codes "dom") a) ≡ true
other_no_dom Client a h = grind arith
other_no_dom Server a h = grind arith
other_no_dom (Speakfor user) a h = grind arith

others_less : (role : Role) (start : List Attr) → length (others_part role start) ≤ length (filter (λ a. not (is_named (codes "dom") a)) start)
others_less role [] = omega arith
others_less role (a ∷ start) =
    elim (cases_Bool (is_other role a)) [
      | inl other ↦ let here : not (is_named (codes "dom") a) ≡ true = other_no_dom role a other in rw (other, here) (omega (arith, others_less role start))
      | inr own ↦ rw own (elim (cases_Bool (not (is_named (codes "dom") a))) [
        | inl here ↦ rw here (omega (arith, others_less role start))
        | inr dom ↦ rw dom (others_less role start)
      ])
    ]

pub others_few : (role : Role) (start : List Attr) → fits_start start ≡ true → length (others_part role start) ≤ 32
others_few role start h = omega (arith, others_less role start, leb-true (length (filter (λ a. not (is_named (codes "dom") a)) start)) 32 h)

-- ---- the steps are the parts

pub asked_steps : (protocol : List ℕ) (role : Role) (start : List Attr) (dom : Option (List ℕ)) (first second third fourth whole : List Attr) →
    first ≡ given_as (codes "proto") protocol ∷ [] →
    second ≡ first ++ dom_part dom →
    third ≡ second ++ others_part role start →
    fourth ≡ third ++ user_part third →
    whole ≡ fourth ++ ask_dom_part role (is_some dom) →
    whole ≡ asked protocol role start dom
unfolding asked
asked_steps protocol role start None first second third fourth whole a b c d e =
    rw (e, d, c, b, a) (ap (λ x. given_as (codes "proto") protocol ∷ x) (append_assoc (others_part role start) (user_part (others_part role start)) (ask_dom_part role false)))
asked_steps protocol role start (Some dom) first second third fourth whole a b c d e =
    rw (e, d, c, b, a) (ap (λ x. given_as (codes "proto") protocol ∷ given_as (codes "dom") dom ∷ x) (append_assoc (others_part role start) (user_part (others_part role start)) (ask_dom_part role true)))
