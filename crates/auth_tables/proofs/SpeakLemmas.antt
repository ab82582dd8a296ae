-- Hosts, the names that lines give them, and one line more.
use Rattle.std.proofs.Common.{◌≡◌, ℕ, List, [], ◌∷◌, ◌++◌, Bool, true, false, cond, ◌&&◌, ◌||◌, Option, Some, None, refl, sym, ap, ◌∙◌, inl, inr, append-nil}
use Rattle.std.specs.Prelude.{unwrap_or}
use Rattle.std.specs.List.{list_any, flat_map, cons_option}
use Rattle.std.specs.Map.{lookup}
use Rattle.std.specs.Str.{bytes_eq}
use Rattle.std.specs.Cmp.Lexicographic.{bytes_decides, nat_list_eq_equiv}
use Rattle.std.proofs.lemmas.Bool.{cases_Bool, cond-true, cond-false}
use Rattle.std.proofs.lemmas.List.Concat.{flat_map-append}
use Rattle.std.proofs.lemmas.List.Folds.{list_any-append}
use Rattle.attr_tuples.specs.declared.attr.Attr.{Attr}
use Rattle.attr_tuples.specs.declared.attr.Value.{Value}
use Rattle.attr_tuples.specs.declared.attr.Value.TheVariants.{Is, Ask, Bare}
use Rattle.attr_tuples.specs.Attributes.{is_named, is_given}
use Rattle.attr_tuples.specs.Giving.{gives}
use Rattle.attr_tuples.specs.Matching.{texts_of, given_text}
use Rattle.auth_tables.specs.Speaks.{SpeakLine, names_in, names_of, speak_in, speaks_in}
use Rattle.auth_tables.specs.Steps.{TellsSpeaks}
use Rattle.auth_tables.proofs.FoundLemmas.{filter_map_last}
use Rattle.auth_tables.proofs.MapLemmas.{by_bytes, read_by, found_by_bytes}
use Rattle.std.specs.BTreeMap.{is_at}

-- ---- what lines give, and the names of all of them

given_step : (named : Bool) (v : Value) (test : List ℕ → Bool) (texts : List (List ℕ)) (later : Bool) → later ≡ list_any test texts → (named && is_given test v || later) ≡ list_any test (cons_option (cond named (given_text v) None) texts)
given_step true (Is text) test texts later h = ap (λ (b : Bool). test text || b) h
given_step true Ask test texts later h = h
given_step true Bare test texts later h = h
given_step false v test texts later h = h

given_texts : (name : List ℕ) (test : List ℕ → Bool) (attrs : List Attr) → gives name test attrs ≡ list_any test (texts_of name attrs)
given_texts name test [] = refl
given_texts name test (a ∷ attrs) = given_step (is_named name a) a.value test (texts_of name attrs) (gives name test attrs) (given_texts name test attrs)

pub given_lines : (name : List ℕ) (test : List ℕ → Bool) (lines : List (List Attr)) → list_any (gives name test) lines ≡ list_any test (flat_map (texts_of name) lines)
given_lines name test [] = refl
given_lines name test (line ∷ lines) =
    ap (λ (b : Bool). b || list_any (gives name test) lines) (given_texts name test line)
    ∙ (ap (λ (b : Bool). list_any test (texts_of name line) || b) (given_lines name test lines)
    ∙ sym (list_any-append test (texts_of name line) (flat_map (texts_of name) lines)))

-- one line more
pub lines_last : (name : List ℕ) (lines : List (List Attr)) (line : List Attr) → flat_map (texts_of name) (lines ++ line ∷ []) ≡ flat_map (texts_of name) lines ++ texts_of name line
lines_last name lines line = flat_map-append (texts_of name) lines (line ∷ []) ∙ ap (λ (ns : List (List ℕ)). flat_map (texts_of name) lines ++ ns) (append-nil (texts_of name line))

-- ---- a host of a table

-- the names that a map finds are those of the host
pub found_names : {K : Type 0} (read : K → List ℕ) (asked host : List ℕ) (entries : List (K × List (List ℕ))) (found : Option (List (List ℕ))) → asked ≡ host → found ≡ lookup (is_at (by_bytes read asked)) entries → unwrap_or found [] ≡ names_of host (read_by read entries)
found_names read asked host entries found same e =
    ap (λ (o : Option (List (List ℕ))). unwrap_or o []) (e ∙ found_by_bytes read asked entries) ∙ ap (λ (name : List ℕ). names_of name (read_by read entries)) same

-- its names are those that are put under it
pub put_names : (host : List ℕ) (old new : List SpeakLine) (names added : List (List ℕ))
    → ((other : List ℕ) → lookup (bytes_eq other) new ≡ cond (bytes_eq host other) (Some names) (lookup (bytes_eq other) old)) → names ≡ names_of host old ++ added
    → (other : List ℕ) → names_of other new ≡ cond (bytes_eq host other) (names_of other old ++ added) (names_of other old)
put_names host old new names added put is other = elim (cases_Bool (bytes_eq host other)) [
  | inl y ↦
      ap (λ (o : Option (List (List ℕ))). unwrap_or o []) (put other ∙ cond-true (bytes_eq host other) (Some names) (lookup (bytes_eq other) old) y)
      ∙ (is
      ∙ (ap (λ (name : List ℕ). names_of name old ++ added) ((bytes_decides host other).0 y)
      ∙ sym (cond-true (bytes_eq host other) (names_of other old ++ added) (names_of other old) y)))
  | inr n ↦
      ap (λ (o : Option (List (List ℕ))). unwrap_or o []) (put other ∙ cond-false (bytes_eq host other) (Some names) (lookup (bytes_eq other) old) n)
      ∙ sym (cond-false (bytes_eq host other) (names_of other old ++ added) (names_of other old) n)
]

-- ---- a table, and one line more

or_none : (b : Bool) (first added : List (List ℕ)) → cond b (first ++ added) first ≡ first ++ cond b added []
or_none true first added = refl
or_none false first added = sym (append-nil first)

pub put_line : (before : List (List ℕ)) (line host : List ℕ) (added : List (List ℕ)) (table new : List SpeakLine) → Some (host, added) ≡ speak_in line
    → ((other : List ℕ) → names_of other new ≡ cond (bytes_eq host other) (names_of other table ++ added) (names_of other table))
    → TellsSpeaks before table → TellsSpeaks (before ++ line ∷ []) new
put_line before line host added table new given put tells other =
    put other
    ∙ (ap (λ (names : List (List ℕ)). cond (bytes_eq host other) (names ++ added) names) (tells other)
    ∙ (or_none (bytes_eq host other) (names_in (speaks_in before) other) added
    ∙ (ap (λ (b : Bool). names_in (speaks_in before) other ++ cond b added []) (nat_list_eq_equiv.symm host other)
    ∙ (sym (ap (λ (names : List (List ℕ)). names_in (speaks_in before) other ++ names) (append-nil (cond (bytes_eq other host) added [])))
    ∙ (sym (flat_map-append (λ (said : SpeakLine). cond (bytes_eq other said.0) said.1 []) (speaks_in before) ((host, added) ∷ []))
    ∙ ap (λ (lines : List SpeakLine). names_in lines other) (sym (filter_map_last speak_in before line (host, added) (sym given))))))))
