-- How a table is written, line by line.
use Rattle.std.proofs.Common.{◌≡◌, ◌≢◌, ℕ, zero, suc, ◌==◌, ◌||◌, arith, length, get_or, subst, List, [], ◌∷◌, ◌++◌, Bool, true, false, cond, Option, Some, None, codes, refl, sym, ap, ◌∙◌}
use Rattle.std.specs.Prelude.{AllPairs}
use Rattle.std.specs.Prelude.{IfSome, nat_le}
use Rattle.std.specs.List.{AllByRecursion, list_all}
use Rattle.std.proofs.lemmas.Bool.{and_from, and_parts}
use Rattle.hex.specs.Hex.{IsBytes}
use Rattle.wire_base.specs.Texts.{is_text}
use Rattle.attr_tuples.specs.Attributes.{is_value}
use Rattle.attr_tuples.specs.Lines.{is_line_byte}
use Rattle.attr_tuples.specs.declared.attr.Value.TheVariants.{Is}
use Rattle.std.specs.List.Sorted.{IsStrictlySortedBy}
use Rattle.std.proofs.lemmas.List.Elements.{All-from_recursion, recursion_from_All}
use Rattle.std.specs.Ordering.{is_eq, match_ordering, nat_cmp}
use Rattle.std.specs.declared.cmp.Ordering.{Ordering}
use Rattle.std.specs.declared.cmp.Ordering.TheVariants.{Less, Equal, Greater}
use Rattle.std.specs.Cmp.Lexicographic.{bytes_decides, slice_cmp}
use Rattle.std.specs.Map.{keys_of, lookup, set_value}
use Rattle.std.specs.Str.{bytes_eq}
use Rattle.std.specs.BTreeMap.{insert_entry, is_at}
use Rattle.std.proofs.lemmas.List.{append_assoc}
use Rattle.std.proofs.lemmas.Map.Text.{is_eq-slice_cmp}
use Rattle.attr_tuples.specs.Words.{value_text}
use Rattle.attr_tuples.specs.Printing.{printed_text}
use Rattle.hex.specs.Hex.{encode_lower}
use Rattle.auth_tables.specs.Keys.{KeyLine, UserKey}
use Rattle.auth_tables.specs.Printing.{IsKeyLine, IsTable, given, is_new_password, is_of_password, key_line, key_of_password, password_given}
use Rattle.auth_tables.specs.Steps.{digits_text, password_text}
use Rattle.auth_tables.proofs.MapLemmas.{by_bytes, read_by}

-- ---- a line

-- a text behind a user, in front of the end of the line
behind_user : (user text : List ℕ) → (codes "user=" ++ value_text user ++ text) ++ 10 ∷ [] ≡ codes "user=" ++ (value_text user ++ (text ++ 10 ∷ []))
behind_user user text = ap (λ (ls : List ℕ). codes "user=" ++ ls) (append_assoc (value_text user) text (10 ∷ []))

-- the line by its parts, where it has digits or hasn't
parts_by : (user digits : List ℕ) (password : Option (List ℕ)) (b : Bool)
    → printed_text (given (codes "user") user ∷ (cond b [] (given (codes "!hex") digits ∷ []) ++ password_given password)) ++ 10 ∷ []
    ≡ codes "user=" ++ (value_text user ++ (cond b [] (codes " !hex=" ++ value_text digits) ++ (password_text password ++ 10 ∷ [])))
unfolding printed_text
parts_by user digits None true = refl
parts_by user digits (Some password) true = behind_user user (codes " !password=" ++ value_text password)
parts_by user digits None false = behind_user user (codes " !hex=" ++ value_text digits)
parts_by user digits (Some password) false =
    behind_user user (codes " !hex=" ++ (value_text digits ++ (codes " !password=" ++ value_text password)))
    ∙ ap (λ (ls : List ℕ). codes "user=" ++ (value_text user ++ (codes " !hex=" ++ ls))) (append_assoc (value_text digits) (codes " !password=" ++ value_text password) (10 ∷ []))

-- the line of a user's key by its parts
pub line_parts : (user : List ℕ) (key : UserKey) → key_line (user, key) ≡ codes "user=" ++ (value_text user ++ (digits_text key ++ (password_text key.password ++ 10 ∷ [])))
unfolding key_line
line_parts user key = parts_by user (encode_lower key.des) key.password (is_of_password key.des key.password)

-- what was put out part by part is the line
pub line_is : (old user one two three four five six : List ℕ) (key : UserKey)
    → two ≡ old ++ codes "user=" → three ≡ two ++ value_text user → four ≡ three ++ digits_text key → five ≡ four ++ password_text key.password → six ≡ five ++ 10 ∷ []
    → six ≡ old ++ key_line (user, key)
line_is old user one two three four five six key b c d e f =
    f ∙ (ap (λ (ls : List ℕ). ls ++ 10 ∷ []) (e ∙ ap (λ (ls : List ℕ). ls ++ password_text key.password) (d ∙ ap (λ (ls : List ℕ). ls ++ digits_text key) (c ∙ ap (λ (ls : List ℕ). ls ++ value_text user) b)))
    ∙ (joined old (codes "user=") (value_text user) (digits_text key) (password_text key.password) (10 ∷ [])
    ∙ ap (λ (ls : List ℕ). old ++ ls) (sym (line_parts user key))))
  where
    joined : (a b c d e f : List ℕ) → ((((a ++ b) ++ c) ++ d) ++ e) ++ f ≡ a ++ (b ++ (c ++ (d ++ (e ++ f))))
    joined a b c d e f = append_assoc (((a ++ b) ++ c) ++ d) e f ∙ (append_assoc ((a ++ b) ++ c) d (e ++ f) ∙ (append_assoc (a ++ b) c (d ++ (e ++ f)) ∙ append_assoc a b (c ++ (d ++ (e ++ f)))))

-- a password that was put out behind its name
pub password_put : (old two three asked text : List ℕ) (password : Option (List ℕ)) → Some text ≡ password → asked ≡ text → two ≡ old ++ codes " !password=" → three ≡ two ++ value_text asked → three ≡ old ++ password_text password
password_put old two three asked text password is same b c =
    c ∙ (ap (λ (ls : List ℕ). ls ++ value_text asked) b
    ∙ (append_assoc old (codes " !password=") (value_text asked)
    ∙ (ap (λ (ls : List ℕ). old ++ (codes " !password=" ++ value_text ls)) same
    ∙ ap (λ (found : Option (List ℕ)). old ++ password_text found) is)))

-- ---- a password that is set

nothing_step : {X : Type 0} (e : List ℕ × X) (value : X) (rest some : List (List ℕ × X)) (found : Option X) (b : Bool) → cond b (Some e.1) found ≡ None → (found ≡ None → some ≡ rest) → cond b ((e.0, value) ∷ rest) (e ∷ some) ≡ e ∷ rest
nothing_step e value rest some found true h g = absurd cc
nothing_step {X} e value rest some found false h g = ap (λ (es : List (List ℕ × X)). e ∷ es) (g h)

-- where no key is found none is written
pub set_nothing : {X : Type 0} (test : List ℕ → Bool) (entries : List (List ℕ × X)) (value : X) → lookup test entries ≡ None → set_value test entries value ≡ entries
set_nothing test [] value h = refl
set_nothing test (e ∷ entries) value h = nothing_step e value entries (set_value test entries value) (lookup test entries) (test e.0) h (set_nothing test entries value)

-- ---- a table in which a password is set

set_length : {X : Type 0} (test : List ℕ → Bool) (es : List (List ℕ × X)) (value : X) → length (set_value test es value) ≡ length es
set_length test [] value = refl
set_length test (e ∷ es) value = by_test (test e.0) (set_length test es value)
  where
    by_test : (b : Bool) → length (set_value test es value) ≡ length es → length (cond b ((e.0, value) ∷ es) (e ∷ set_value test es value)) ≡ length (e ∷ es)
    by_test true h = refl
    by_test false h = ap suc h

set_user : {X : Type 0} (test : List ℕ → Bool) (es : List (List ℕ × X)) (value : X) (i : ℕ) (d : List ℕ × X) → (get_or (set_value test es value) i d).0 ≡ (get_or es i d).0
set_user test [] value i d = refl
set_user test (e ∷ es) value i d = by_test (test e.0) i (λ i. set_user test es value i d)
  where
    by_test : (b : Bool) (i : ℕ) → ((i : ℕ) → (get_or (set_value test es value) i d).0 ≡ (get_or es i d).0) → (get_or (cond b ((e.0, value) ∷ es) (e ∷ set_value test es value)) i d).0 ≡ (get_or (e ∷ es) i d).0
    by_test true zero h = refl
    by_test true (suc i) h = refl
    by_test false zero h = refl
    by_test false (suc i) h = h i

set_good : (test : List ℕ → Bool) (es : List KeyLine) (key : UserKey) → length key.des ≡ 7 → IsBytes key.des → IfSome key.password (λ password. is_value (Is password) ≡ true) → AllByRecursion IsKeyLine es → AllByRecursion IsKeyLine (set_value test es key)
set_good test [] key seven bytes valued h = tt
set_good test (e ∷ es) key seven bytes valued h = by_test (test e.0) (set_good test es key seven bytes valued h.1)
  where
    by_test : (b : Bool) → AllByRecursion IsKeyLine (set_value test es key) → AllByRecursion IsKeyLine (cond b ((e.0, key) ∷ es) (e ∷ set_value test es key))
    by_test true g = (record { user = h.0.user; user_text = h.0.user_text; seven = seven; bytes = bytes; password = valued }, h.1)
    by_test false g = (h.0, g)

line_bytes : (bytes : List ℕ) → list_all (nat_le 32) bytes ≡ true → list_all is_line_byte bytes ≡ true
line_bytes [] h = refl
line_bytes (b ∷ bytes) h = let parts = and_parts (nat_le 32 b) (list_all (nat_le 32) bytes) h in and_from (is_line_byte b) (list_all is_line_byte bytes) (by_test (nat_le 32 b) (b == 9) parts.0) (line_bytes bytes parts.1)
  where
    by_test : (a c : Bool) → a ≡ true → (a || c) ≡ true
    by_test true c h = refl
    by_test false c h = absurd cc

new_valued : (password : List ℕ) → is_new_password password ≡ true → is_value (Is password) ≡ true
new_valued password h =
    let few = (and_parts (nat_le 8 (length password)) _ h).1 in
    let parts = and_parts (list_all (nat_le 32) password) (is_text password) (and_parts (nat_le (length password) 27) _ few).1 in
    and_from (list_all is_line_byte password) (is_text password) (line_bytes password parts.0) parts.1

-- the table stays one
pub set_table : (user password : List ℕ) (key : UserKey) (keys new : List KeyLine) → is_new_password password ≡ true → key ≡ key_of_password password → length key.des ≡ 7 → IsBytes key.des → new ≡ set_value (bytes_eq user) keys key → IsTable keys → IsTable new
set_table user password key keys new h is seven bytes same table =
    subst IsTable (sym same) (record {
      lines = All-from_recursion IsKeyLine _ (set_good (bytes_eq user) keys key seven bytes (subst (λ (key : UserKey). IfSome key.password (λ password. is_value (Is password) ≡ true)) (sym is) (new_valued password h)) (recursion_from_All IsKeyLine keys table.lines));
      apart = λ i j d lt le e. table.apart i j d lt (let len = set_length (bytes_eq user) keys key in omega (arith, len, le)) (sym (set_user (bytes_eq user) keys key i d) ∙ (e ∙ set_user (bytes_eq user) keys key j d));
      few = let len = set_length (bytes_eq user) keys key in let most = table.few in omega (arith, len, most);
    })
