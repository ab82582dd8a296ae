-- What a key holds, whose tuple breaks no rule.
use Rattle.std.proofs.Common.{◌≡◌, ℕ, List, [], ◌∷◌, Bool, true, false, cond, not, ◌&&◌, ◌||◌, eqb, length, Option, Some, None, codes, refl, sym, ap, ◌∙◌, inl, inr, arith}
use Rattle.std.specs.Borrow.{Bor}
use Rattle.std.specs.Prelude.{is_some, find, option_map, IsSome, IfSome}
use Rattle.wire_base.specs.declared.text.Text.{Text}
use Rattle.std.specs.List.{filter, list_all, slice_get, cons_option}
use Rattle.std.proofs.lemmas.Bool.{cases_Bool, and_parts, and_from, or_cases, or_parts, eqb-true, not-true, not-false, not_from_false}
use Rattle.std.proofs.lemmas.List.Sums.{AllPass-from_list_all}
use Rattle.attr_tuples.specs.declared.attr.Attr.{Attr}
use Rattle.attr_tuples.specs.declared.attr.Value.{Value}
use Rattle.attr_tuples.specs.declared.attr.Value.TheVariants.{Is, Ask, Bare}
use Rattle.attr_tuples.specs.Attributes.{is_named, is_named_once, is_given}
use Rattle.attr_tuples.specs.Matching.{has_name, value_of, texts_of, given_text}
use Rattle.key_lists.specs.declared.fault.AddFault.{AddFault}
use Rattle.key_lists.specs.declared.fault.AddFault.TheVariants.{AskInKey}
use Rattle.attr_tuples.specs.Forms.{is_user, is_dom, is_hex_key}
use Rattle.attr_tuples.specs.Giving.{gives, gives_once, is_any}
use Rattle.key_lists.specs.Digits.{digits_or_password}
use Rattle.key_ring.specs.DesKeys.{hex_of, des_key}
use Rattle.wire_base.specs.Rules.{Rule, first_told}
use Rattle.key_lists.specs.KeyFaults.{key_rules, key_fault, is_p9sk1, is_protocol, is_bad_hex, has_bad_name, has_secret}

-- ---- the value of a name

given_step : (named : Bool) (v : Value) (texts : List (List ℕ)) (test : List ℕ → Bool) (later : Bool) → (named && is_given test v || later) ≡ true → (later ≡ true → is_some (slice_get texts 0) ≡ true) → is_some (slice_get (cons_option (cond named (given_text v) None) texts) 0) ≡ true
given_step true (Is text) texts test later h rest = refl
given_step true Ask texts test later h rest = rest h
given_step true Bare texts test later h rest = rest h
given_step false v texts test later h rest = rest h

-- a name that is given something has a value
pub given_value : (name : List ℕ) (test : List ℕ → Bool) (attrs : List Attr) → gives name test attrs ≡ true → is_some (value_of name attrs) ≡ true
unfolding value_of
given_value name test [] h = absurd cc
given_value name test (a ∷ attrs) h = given_step (is_named name a) a.value (texts_of name attrs) test (gives name test attrs) h (given_value name test attrs)

named_step : (named : Bool) (v : Value) (texts : List (List ℕ)) (text : List ℕ) (later : Bool) → slice_get (cons_option (cond named (given_text v) None) texts) 0 ≡ Some text → (slice_get texts 0 ≡ Some text → later ≡ true) → (named || later) ≡ true
named_step true v texts text later e rest = refl
named_step false v texts text later e rest = rest e

-- a name that has a value is named
pub value_named : (name : List ℕ) (attrs : List Attr) (text : List ℕ) → value_of name attrs ≡ Some text → has_name attrs name ≡ true
unfolding value_of
value_named name [] text e = absurd cc
value_named name (a ∷ attrs) text e = named_step (is_named name a) a.value (texts_of name attrs) text (has_name attrs name) e (value_named name attrs text)

none_step : (named : Bool) (a : Attr) (rest : List Attr) (given later : Bool) → length (cond named (a ∷ rest) rest) ≡ 0 → (length rest ≡ 0 → later ≡ false) → (named && given || later) ≡ false
none_step true a rest given later h more = absurd (omega arith)
none_step false a rest given later h more = more h

pub none_given : (name : List ℕ) (test : List ℕ → Bool) (attrs : List Attr) → length (filter (is_named name) attrs) ≡ 0 → gives name test attrs ≡ false
none_given name test [] h = refl
none_given name test (a ∷ attrs) h = none_step (is_named name a) a (filter (is_named name) attrs) (is_given test a.value) (gives name test attrs) h (none_given name test attrs)

only_step : (v : Value) (texts : List (List ℕ)) (test : List ℕ → Bool) (later : Bool) (text : List ℕ) → (is_given test v || later) ≡ true → later ≡ false → slice_get (cons_option (given_text v) texts) 0 ≡ Some text → test text ≡ true
only_step (Is given) texts test later text h none e =
    let same : given ≡ text = cc in
    elim (or_cases (test given) later h) [ inl t ↦ ap test (sym same) ∙ t | inr t ↦ absurd cc ]
only_step Ask texts test later text h none e = absurd cc
only_step Bare texts test later text h none e = absurd cc

once_step : (named : Bool) (v : Value) (a : Attr) (rest : List Attr) (texts : List (List ℕ)) (test : List ℕ → Bool) (later : Bool) (text : List ℕ)
    → eqb (length (cond named (a ∷ rest) rest)) 1 ≡ true → (named && is_given test v || later) ≡ true → slice_get (cons_option (cond named (given_text v) None) texts) 0 ≡ Some text
    → (length rest ≡ 0 → later ≡ false) → (eqb (length rest) 1 ≡ true → later ≡ true → slice_get texts 0 ≡ Some text → test text ≡ true) → test text ≡ true
once_step true v a rest texts test later text one h e none more = only_step v texts test later text h (none (let n = eqb-true (length (a ∷ rest)) 1 one in omega (arith, n))) e
once_step false v a rest texts test later text one h e none more = more one h e

-- a name that is given one value alone has that value
pub once_value : (name : List ℕ) (test : List ℕ → Bool) (attrs : List Attr) (text : List ℕ) → gives_once name test attrs ≡ true → value_of name attrs ≡ Some text → test text ≡ true
unfolding value_of
once_value name test [] text h e = absurd cc
once_value name test (a ∷ attrs) text h e =
    let parts = and_parts (is_named_once name (a ∷ attrs)) (gives name test (a ∷ attrs)) h in
    once_step (is_named name a) a.value a (filter (is_named name) attrs) (texts_of name attrs) test (gives name test attrs) text parts.0 parts.1 e
    (none_given name test attrs) (λ one given e'. once_value name test attrs text (and_from _ _ one given) e')

digits_step : (v : Value) (texts : List (List ℕ)) (text : List ℕ) → not (is_given is_hex_key v) ≡ false → slice_get (cons_option (given_text v) texts) 0 ≡ Some text → is_hex_key text ≡ true
digits_step (Is given) texts text h e = let same : given ≡ text = cc in ap is_hex_key (sym same) ∙ not-false _ h
digits_step Ask texts text h e = absurd cc
digits_step Bare texts text h e = absurd cc

hex_step : (named : Bool) (a : Attr) (other : Option Attr) (texts : List (List ℕ)) (text : List ℕ) → is_bad_hex (cond named (Some a) other) ≡ false → slice_get (cons_option (cond named (given_text a.value) None) texts) 0 ≡ Some text
    → (is_bad_hex other ≡ false → slice_get texts 0 ≡ Some text → is_hex_key text ≡ true) → is_hex_key text ≡ true
hex_step true a other texts text h e more = digits_step a.value texts text h e
hex_step false a other texts text h e more = more h e

-- the digits of a key are digits
pub hex_value : (attrs : List Attr) (text : List ℕ) → is_bad_hex (find (is_named (codes "!hex")) attrs) ≡ false → value_of (codes "!hex") attrs ≡ Some text → is_hex_key text ≡ true
unfolding value_of
hex_value [] text h e = absurd cc
hex_value (a ∷ attrs) text h e = hex_step (is_named (codes "!hex") a) a (find (is_named (codes "!hex")) attrs) (texts_of (codes "!hex") attrs) text h e (hex_value attrs text)

-- ---- the rules

-- where no rule is broken, each is kept
all_kept : {Fault : Type 0} (rules : List (Rule Fault)) → first_told rules ≡ None → list_all (λ (rule : Rule Fault). not rule.0) rules ≡ true
all_kept [] h = refl
all_kept (rule ∷ later) h = elim (cases_Bool rule.0) [
  | inl t ↦ absurd (let s : Some rule.1 ≡ None = rw t at h in cc)
  | inr f ↦ and_from _ _ (not_from_false _ f) (all_kept later (rw f at h))
]

-- what holds of a key
pub record Holds (key : List Attr) : Type 0 where
  pub proto : gives_once (codes "proto") is_protocol key ≡ true
  pub user : gives_once (codes "user") is_user key ≡ true
  pub dom_named : is_p9sk1 key ≡ true → has_name key (codes "dom") ≡ true
  pub dom : has_name key (codes "dom") ≡ true → gives_once (codes "dom") is_dom key ≡ true
  pub secret : has_secret key ≡ true
  pub digits : is_p9sk1 key ≡ true → is_bad_hex (find (is_named (codes "!hex")) key) ≡ false

then_true : (x y : Bool) → (x && not y) ≡ false → x ≡ true → y ≡ true
then_true true true h e = refl
then_true true false h e = absurd cc
then_true false y h e = absurd cc

then_false : (x y : Bool) → (x && y) ≡ false → x ≡ true → y ≡ false
then_false true y h e = h
then_false false y h e = absurd cc

pub key_holds : (key : List Attr) → key_fault key ≡ None → Holds key
unfolding key_fault
key_holds key h =
    let kept = AllPass-from_list_all (λ (rule : Rule AddFault). not rule.0) (key_rules key) (all_kept (key_rules key) h) in
    let none : Rule AddFault = (false, AskInKey) in
    let protocol : not (not (gives_once (codes "proto") is_protocol key)) ≡ true = kept 2 none (omega arith) in
    let lacks : not (is_p9sk1 key && not (has_name key (codes "dom"))) ≡ true = kept 4 none (omega arith) in
    let names : not (has_bad_name key) ≡ true = kept 5 none (omega arith) in
    let secret : not (not (has_secret key)) ≡ true = kept 6 none (omega arith) in
    let digits : not (is_p9sk1 key && is_bad_hex (find (is_named (codes "!hex")) key)) ≡ true = kept 7 none (omega arith) in
    let parts = or_parts (not (gives_once (codes "user") is_user key)) (has_name key (codes "dom") && not (gives_once (codes "dom") is_dom key)) (not-true _ names) in
    record {
      proto = not-false _ (not-true _ protocol);
      user = not-false _ parts.0;
      dom_named = then_true (is_p9sk1 key) (has_name key (codes "dom")) (not-true _ lacks);
      dom = then_true (has_name key (codes "dom")) (gives_once (codes "dom") is_dom key) parts.1;
      secret = not-false _ (not-true _ secret);
      digits = then_false (is_p9sk1 key) (is_bad_hex (find (is_named (codes "!hex")) key)) (not-true _ digits);
    }

-- ---- what a key has

pub has_user : (key : List Attr) → key_fault key ≡ None → is_some (value_of (codes "user") key) ≡ true
has_user key h = given_value (codes "user") is_user key (and_parts (is_named_once (codes "user") key) (gives (codes "user") is_user key) (key_holds key h).user).1

pub good_user : (key : List Attr) (text : List ℕ) → key_fault key ≡ None → value_of (codes "user") key ≡ Some text → is_user text ≡ true
good_user key text h e = once_value (codes "user") is_user key text (key_holds key h).user e

pub good_dom : (key : List Attr) (text : List ℕ) → key_fault key ≡ None → value_of (codes "dom") key ≡ Some text → is_dom text ≡ true
good_dom key text h e = once_value (codes "dom") is_dom key text ((key_holds key h).dom (value_named (codes "dom") key text e)) e

pub has_dom : (key : List Attr) → key_fault key ≡ None → is_p9sk1 key ≡ true → is_some (value_of (codes "dom") key) ≡ true
has_dom key h p =
    let o = key_holds key h in
    given_value (codes "dom") is_dom key (and_parts (is_named_once (codes "dom") key) (gives (codes "dom") is_dom key) (o.dom (o.dom_named p))).1

pub has_password : (key : List Attr) → key_fault key ≡ None → is_p9sk1 key ≡ false → is_some (value_of (codes "!password") key) ≡ true
has_password key h p =
    let secret : (gives (codes "!password") is_any key || is_p9sk1 key && gives (codes "!hex") is_any key) ≡ true = (key_holds key h).secret in
    given_value (codes "!password") is_any key (only_first (gives (codes "!password") is_any key) (is_p9sk1 key) (gives (codes "!hex") is_any key) secret p)
  where
    only_first : (x y z : Bool) → (x || y && z) ≡ true → y ≡ false → x ≡ true
    only_first true y z h e = refl
    only_first false true z h e = absurd cc
    only_first false false z h e = absurd cc

pub good_digits : (key : List Attr) (text : List ℕ) → key_fault key ≡ None → hex_of key ≡ Some text → is_hex_key text ≡ true
good_digits key text h e = elim (cases_Bool (is_p9sk1 key)) [
  | inl t ↦ hex_value key text ((key_holds key h).digits t) (let e' : value_of (codes "!hex") key ≡ Some text = rw t at e in e')
  | inr f ↦ absurd (let e' : None ≡ Some text = rw f at e in cc)
]

-- ---- the same of what is looked up

pub no_user : (key : List Attr) (name : List ℕ) → key_fault key ≡ None → name ≡ codes "user" → None ≡ value_of name key → ⊥
no_user key name h n e = absurd (let found : is_some {T = List ℕ} None ≡ true = ap is_some (e ∙ ap (λ (name : List ℕ). value_of name key) n) ∙ has_user key h in cc)

pub found_user : (key : List Attr) (name text : List ℕ) → key_fault key ≡ None → name ≡ codes "user" → Some text ≡ value_of name key → is_user text ≡ true
found_user key name text h n e = good_user key text h (sym (e ∙ ap (λ (name : List ℕ). value_of name key) n))

pub found_dom : (key : List Attr) (name : List ℕ) (found : Option (Bor Text)) → key_fault key ≡ None → name ≡ codes "dom" → option_map (λ (dom : Bor Text). dom.now) found ≡ value_of name key → IfSome found (λ dom. is_dom dom.now ≡ true)
found_dom key name None h n e = tt
found_dom key name (Some dom) h n e = good_dom key dom.now h (sym (e ∙ ap (λ (name : List ℕ). value_of name key) n))

-- whether something is found is whether the name has a value
found_some : (found : Option (Bor Text)) (value : Option (List ℕ)) → option_map (λ (text : Bor Text). text.now) found ≡ value → is_some value ≡ true → IsSome found
found_some None value e h = absurd (let some : is_some {T = List ℕ} None ≡ true = ap is_some e ∙ h in cc)
found_some (Some text) value e h = refl

pub dom_found : (key seen : List Attr) (name : List ℕ) (found : Option (Bor Text)) → key ≡ seen → key_fault key ≡ None → name ≡ codes "dom" → option_map (λ (dom : Bor Text). dom.now) found ≡ value_of name key → is_p9sk1 seen ≡ true → IsSome found
dom_found key seen name found same h n e p = found_some found _ (e ∙ ap (λ (name : List ℕ). value_of name key) n) (has_dom key h (ap is_p9sk1 same ∙ p))

pub password_found : (key seen : List Attr) (name : List ℕ) (found : Option (Bor Text)) → key ≡ seen → key_fault key ≡ None → name ≡ codes "!password" → option_map (λ (password : Bor Text). password.now) found ≡ value_of name key → is_p9sk1 seen ≡ false → IsSome found
password_found key seen name found same h n e p = found_some found _ (e ∙ ap (λ (name : List ℕ). value_of name key) n) (has_password key h (ap is_p9sk1 same ∙ p))

-- ---- the DES key

-- what is looked up for the digits of a key is digits
pub found_digits : (key : List Attr) (found : Option (Bor Text)) → key_fault key ≡ None → option_map (λ (digits : Bor Text). digits.now) found ≡ hex_of key → IfSome found (λ digits. is_hex_key digits.now ≡ true)
found_digits key None h e = tt
found_digits key (Some digits) h e = good_digits key digits.now h (sym e)

-- the key that is chosen by what is looked up
pub chosen_key : (key : List Attr) (name : List ℕ) (digits password : Option (List ℕ)) → name ≡ codes "!password" → digits ≡ hex_of key → password ≡ value_of name key → digits_or_password digits password ≡ des_key key
unfolding des_key
chosen_key key name digits password n d p =
    ap (λ (found : Option (List ℕ)). digits_or_password found password) d
    ∙ ap (digits_or_password (hex_of key)) (p ∙ ap (λ (name : List ℕ). value_of name key) n)
