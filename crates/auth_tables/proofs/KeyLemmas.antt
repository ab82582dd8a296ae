-- What a line that gives a key gives.
use Rattle.std.proofs.Common.{◌≡◌, ℕ, List, [], ◌∷◌, Bool, true, false, cond, not, ◌&&◌, ◌||◌, eqb, nat_le, length, Option, Some, None, codes, refl, sym, ap, subst, ◌∙◌, inl, inr, arith}
use Rattle.std.specs.Borrow.{Bor}
use Rattle.std.specs.Prelude.{option_map, is_some, unwrap_or, IfSome}
use Rattle.std.specs.List.{filter, list_all, slice_get, cons_option}
use Rattle.std.proofs.lemmas.Bool.{and_from, and_parts, eqb-true, or_cases}
use Rattle.wire_base.specs.declared.text.Text.{Text}
use Rattle.attr_tuples.specs.declared.attr.Attr.{Attr}
use Rattle.attr_tuples.specs.declared.attr.Value.{Value}
use Rattle.attr_tuples.specs.declared.attr.Value.TheVariants.{Is, Ask, Bare}
use Rattle.hex.specs.Hex.{IsBytes}
use Rattle.wire_base.specs.Texts.{is_text}
use Rattle.attr_tuples.specs.Lines.{is_line_byte}
use Rattle.attr_tuples.specs.Attributes.{is_attr, is_given, is_name, is_named, is_named_once, is_tuple, is_value}
use Rattle.attr_tuples.specs.Forms.{is_user, is_hex_key}
use Rattle.attr_tuples.specs.Giving.{gives, gives_once, is_any}
use Rattle.attr_tuples.specs.Matching.{value_of, texts_of, given_text}
use Rattle.key_lists.specs.Digits.{digits_or_password}
use Rattle.auth_tables.specs.Keys.{KeyLine, UserKey, gives_only, is_user_key, key_given}
use Rattle.auth_tables.specs.Printing.{IsKeyLine}

only_step : (named : Bool) (v : Value) (texts : List (List ℕ)) (test : List ℕ → Bool) (text : List ℕ) → (not named || is_given test v) ≡ true → slice_get (cons_option (cond named (given_text v) None) texts) 0 ≡ Some text
    → (slice_get texts 0 ≡ Some text → test text ≡ true) → test text ≡ true
only_step true (Is given) texts test text h e more = let same : given ≡ text = cc in ap test (sym same) ∙ h
only_step true Ask texts test text h e more = more e
only_step true Bare texts test text h e more = more e
only_step false v texts test text h e more = more e

-- where each value of a name passes a test, the first does
pub given_only : (name : List ℕ) (test : List ℕ → Bool) (attrs : List Attr) (text : List ℕ) → gives_only name test attrs ≡ true → value_of name attrs ≡ Some text → test text ≡ true
unfolding value_of
given_only name test [] text h e = absurd cc
given_only name test (a ∷ attrs) text h e =
    let parts = and_parts (not (is_named name a) || is_given test a.value) (gives_only name test attrs) h in
    only_step (is_named name a) a.value (texts_of name attrs) test text parts.0 e (given_only name test attrs text parts.1)

digits_given : (t : List Attr) → is_user_key t ≡ true → gives_only (codes "!hex") is_hex_key t ≡ true
digits_given t h =
    (and_parts (gives_only (codes "!hex") is_hex_key t) _ (and_parts (gives_once (codes "user") is_user t) (gives_only (codes "!hex") is_hex_key t && (gives (codes "!password") is_any t || gives (codes "!hex") is_any t)) h).1).0

-- the digits that are looked up in such a line are digits
pub found_digits : (t : List Attr) (name : List ℕ) (found : Option (Bor Text)) → is_user_key t ≡ true → name ≡ codes "!hex" → option_map (λ (digits : Bor Text). digits.now) found ≡ value_of name t → IfSome found (λ digits. is_hex_key digits.now ≡ true)
found_digits t name None h n e = tt
found_digits t name (Some digits) h n e = given_only (codes "!hex") is_hex_key t digits.now (digits_given t h) (sym (e ∙ ap (λ (name : List ℕ). value_of name t) n))

-- the key that is made of what is looked up
pub made_key : (t : List Attr) (first second : List ℕ) (digits password : Option (List ℕ)) (des : List ℕ) → first ≡ codes "!hex" → second ≡ codes "!password" → digits ≡ value_of first t → password ≡ value_of second t → des ≡ digits_or_password digits password
    → record { des = des; password = value_of (codes "!password") t } ≡ (key_given t).1
made_key t first second digits password des n m d p is =
    ap (λ (des : List ℕ). let key : UserKey = record { des = des; password = value_of (codes "!password") t } in key)
    (is
    ∙ (ap (λ (found : Option (List ℕ)). digits_or_password found password) (d ∙ ap (λ (name : List ℕ). value_of name t) n)
    ∙ ap (digits_or_password (value_of (codes "!hex") t)) (p ∙ ap (λ (name : List ℕ). value_of name t) m)))

-- the same where the password is a copy of what was found
pub made_of_copy : (t : List Attr) (first second : List ℕ) (digits password copy : Option (List ℕ)) (des : List ℕ) → first ≡ codes "!hex" → second ≡ codes "!password" → digits ≡ value_of first t → password ≡ value_of second t → des ≡ digits_or_password digits password → copy ≡ password
    → record { des = des; password = copy } ≡ (key_given t).1
made_of_copy t first second digits password copy des n m d p is same =
    ap (λ (password : Option (List ℕ)). let key : UserKey = record { des = des; password = password } in key) (same ∙ (p ∙ ap (λ (name : List ℕ). value_of name t) m))
    ∙ made_key t first second digits password des n m d p is

-- ---- what a tuple gives, which is one that a line says

none_step : (named : Bool) (a : Attr) (rest : List Attr) (given later : Bool) → length (cond named (a ∷ rest) rest) ≡ 0 → (length rest ≡ 0 → later ≡ false) → (named && given || later) ≡ false
none_step true a rest given later h more = absurd (omega arith)
none_step false a rest given later h more = more h

none_given : (name : List ℕ) (test : List ℕ → Bool) (attrs : List Attr) → length (filter (is_named name) attrs) ≡ 0 → gives name test attrs ≡ false
none_given name test [] h = refl
none_given name test (a ∷ attrs) h = none_step (is_named name a) a (filter (is_named name) attrs) (is_given test a.value) (gives name test attrs) h (none_given name test attrs)

alone_step : (v : Value) (texts : List (List ℕ)) (test : List ℕ → Bool) (later : Bool) (text : List ℕ) → (is_given test v || later) ≡ true → later ≡ false → slice_get (cons_option (given_text v) texts) 0 ≡ Some text → test text ≡ true
alone_step (Is given) texts test later text h none e =
    let same : given ≡ text = cc in
    elim (or_cases (test given) later h) [ inl t ↦ ap test (sym same) ∙ t | inr t ↦ absurd cc ]
alone_step Ask texts test later text h none e = absurd cc
alone_step Bare texts test later text h none e = absurd cc

once_step : (named : Bool) (v : Value) (a : Attr) (rest : List Attr) (texts : List (List ℕ)) (test : List ℕ → Bool) (later : Bool) (text : List ℕ)
    → eqb (length (cond named (a ∷ rest) rest)) 1 ≡ true → (named && is_given test v || later) ≡ true → slice_get (cons_option (cond named (given_text v) None) texts) 0 ≡ Some text
    → (length rest ≡ 0 → later ≡ false) → (eqb (length rest) 1 ≡ true → later ≡ true → slice_get texts 0 ≡ Some text → test text ≡ true) → test text ≡ true
once_step true v a rest texts test later text one h e none more = alone_step v texts test later text h (none (let n = eqb-true (length (a ∷ rest)) 1 one in omega (arith, n))) e
once_step false v a rest texts test later text one h e none more = more one h e

-- a name that is given one value alone has that value
pub once_value : (name : List ℕ) (test : List ℕ → Bool) (attrs : List Attr) (text : List ℕ) → gives_once name test attrs ≡ true → value_of name attrs ≡ Some text → test text ≡ true
unfolding value_of
once_value name test [] text h e = absurd cc
once_value name test (a ∷ attrs) text h e =
    let parts = and_parts (is_named_once name (a ∷ attrs)) (gives name test (a ∷ attrs)) h in
    once_step (is_named name a) a.value a (filter (is_named name) attrs) (texts_of name attrs) test (gives name test attrs) text parts.0 parts.1 e
    (none_given name test attrs) (λ one given e'. once_value name test attrs text (and_from _ _ one given) e')

value_step : (named : Bool) (v : Value) (texts : List (List ℕ)) (text : List ℕ) → is_value v ≡ true → slice_get (cons_option (cond named (given_text v) None) texts) 0 ≡ Some text → (slice_get texts 0 ≡ Some text → is_value (Is text) ≡ true) → is_value (Is text) ≡ true
value_step true (Is given) texts text h e more = let same : given ≡ text = cc in ap (λ (text : List ℕ). is_value (Is text)) (sym same) ∙ h
value_step true Ask texts text h e more = more e
value_step true Bare texts text h e more = more e
value_step false v texts text h e more = more e

-- the value of a name in a tuple is one
value_given : (name : List ℕ) (attrs : List Attr) (text : List ℕ) → list_all is_attr attrs ≡ true → value_of name attrs ≡ Some text → is_value (Is text) ≡ true
unfolding value_of
value_given name [] text h e = absurd cc
value_given name (a ∷ attrs) text h e =
    let parts = and_parts (is_attr a) (list_all is_attr attrs) h in
    value_step (is_named name a) a.value (texts_of name attrs) text (and_parts (is_name a.name) (is_value a.value) parts.0).1 e (value_given name attrs text parts.1)

given_step : (named : Bool) (v : Value) (texts : List (List ℕ)) (test : List ℕ → Bool) (later : Bool) → (named && is_given test v || later) ≡ true → (later ≡ true → is_some (slice_get texts 0) ≡ true) → is_some (slice_get (cons_option (cond named (given_text v) None) texts) 0) ≡ true
given_step true (Is text) texts test later h rest = refl
given_step true Ask texts test later h rest = rest h
given_step true Bare texts test later h rest = rest h
given_step false v texts test later h rest = rest h

-- a name that is given something has a value
given_value : (name : List ℕ) (test : List ℕ → Bool) (attrs : List Attr) → gives name test attrs ≡ true → is_some (value_of name attrs) ≡ true
unfolding value_of
given_value name test [] h = absurd cc
given_value name test (a ∷ attrs) h = given_step (is_named name a) a.value (texts_of name attrs) test (gives name test attrs) h (given_value name test attrs)

-- a user's key names a user
pub user_named : (t : List Attr) (name : List ℕ) → is_user_key t ≡ true → name ≡ codes "user" → None ≡ value_of name t → ⊥
user_named t name h is none =
    let once = (and_parts (gives_once (codes "user") is_user t) _ h).0 in
    let some : false ≡ true = ap is_some (none ∙ ap (λ (name : List ℕ). value_of name t) is) ∙ given_value (codes "user") is_user t (and_parts (is_named_once (codes "user") t) _ once).1 in
    cc

-- what a tuple gives is a line of a table
pub given_line : (t : List Attr) → is_tuple t ≡ true → is_user_key t ≡ true → length (key_given t).1.des ≡ 7 → IsBytes (key_given t).1.des → IsKeyLine (key_given t)
given_line t valid h seven bytes = by_user (value_of (codes "user") t) refl
  where
    once : gives_once (codes "user") is_user t ≡ true
    once = (and_parts (gives_once (codes "user") is_user t) _ h).0

    attrs : list_all is_attr t ≡ true
    attrs = (and_parts (nat_le (length t) 36) (list_all is_attr t) valid).1

    by_password : (found : Option (List ℕ)) → value_of (codes "!password") t ≡ found → IfSome found (λ password. is_value (Is password) ≡ true)
    by_password None e = tt
    by_password (Some password) e = value_given (codes "!password") t password attrs e

    by_user : (found : Option (List ℕ)) → value_of (codes "user") t ≡ found → IsKeyLine (unwrap_or found [], (key_given t).1)
    by_user None e = absurd (let some : true ≡ false = sym (given_value (codes "user") is_user t (and_parts (is_named_once (codes "user") t) _ once).1) ∙ ap is_some e in cc)
    by_user (Some user) e = record {
      user = once_value (codes "user") is_user t user once e;
      user_text = (and_parts (list_all is_line_byte user) (is_text user) (value_given (codes "user") t user attrs e)).1;
      seven = seven;
      bytes = bytes;
      password = by_password (value_of (codes "!password") t) refl;
    }

-- which are the user and the key that were made
pub made_line : (t attrs : List Attr) (user : List ℕ) (key : UserKey) → attrs ≡ t → is_tuple attrs ≡ true → is_user_key t ≡ true → user ≡ (key_given t).0 → key ≡ (key_given t).1 → length key.des ≡ 7 → IsBytes key.des → IsKeyLine (user, key)
made_line t attrs user key same valid h u k seven bytes =
    let line : (user, key) ≡ key_given t = ap (λ (user : List ℕ). let line : KeyLine = (user, key) in line) u ∙ ap (λ (key : UserKey). let line : KeyLine = ((key_given t).0, key) in line) k in
    subst IsKeyLine (sym line) (given_line t (ap is_tuple (sym same) ∙ valid) h (ap (λ (key : UserKey). length key.des) (sym k) ∙ seven) (subst (λ (key : UserKey). IsBytes key.des) k bytes))
