-- A user of the authentication server's tables whom they let speak for another is among that user's speakers.
use Rattle.std.proofs.Common.{◌≡◌, ℕ, zero, List, [], ◌∷◌, filter, map, Bool, true, false, Option, Some, None, is_some, if◌then◌else◌, inl, inr, refl, sym, ap, subst, ◌∙◌, arith}
use Rattle.std.specs.List.{Contains}
use Rattle.std.specs.Map.{lookup}
use Rattle.std.specs.Str.{bytes_eq}
use Rattle.std.proofs.lemmas.Bool.{cases_Bool}
use Rattle.std.proofs.lemmas.List.Elements.{Contains-append_right}
use Rattle.auth_tables.specs.Keys.{KeyLine, UserKey}
use Rattle.auth_tables.specs.Speaks.{may_speak}
use Rattle.symbolic_runs.specs.Sessions.{MaySpeak}
use Rattle.wire_histories.specs.Legal.{Setting, known_at, tables_at}
use Rattle.clean_runs.specs.KeyNames.{key_name, known_name, speakers}
use Rattle.clean_runs.specs.Runs.{name_where}
use Rattle.clean_runs.proofs.Numbers.{same_name}
use Rattle.std.proofs.lemmas.Slice.Eq.{bytes_eq-Decides}

abbrev users : List KeyLine → List (List ℕ)
users lines = map (λ line. line.0) lines

first : (x : List ℕ) (xs : List (List ℕ)) → Contains (x ∷ xs) x
first x xs = (zero, omega arith, refl)

behind : (x : List ℕ) (xs : List (List ℕ)) (y : List ℕ) → Contains xs y → Contains (x ∷ xs) y
behind x xs y h = Contains-append_right (x ∷ []) xs y h

-- a user whom tables have is kept by a test that he passes
kept : (named : List ℕ → List ℕ) (test : List ℕ → Bool) (lines : List KeyLine) (user : List ℕ) (key : UserKey) → lookup (bytes_eq user) lines ≡ Some key → test user ≡ true → Contains (map named (filter test (users lines))) (named user)
kept named test [] user key found passes = absurd (cc)
kept named test (line ∷ lines) user key found passes = elim (cases_Bool (bytes_eq user line.0)) [
  | inl same ↦ (
      let one = same_name user line.0 same in
      let here : test line.0 ≡ true = ap test (sym one) ∙ passes in
      subst (λ xs. Contains (map named xs) (named user)) (sym (ap (λ (b : Bool). if b then line.0 ∷ filter test (users lines) else filter test (users lines)) here)) (subst (λ x. Contains (named x ∷ map named (filter test (users lines))) (named user)) one (first (named user) (map named (filter test (users lines))))))
  | inr differs ↦ (
      let rest = kept named test lines user key (sym (ap (λ (b : Bool). if b then Some line.1 else lookup (bytes_eq user) lines) differs) ∙ found) passes in
      elim (cases_Bool (test line.0)) [
        | inl yes_kept ↦ subst (λ xs. Contains (map named xs) (named user)) (sym (ap (λ (b : Bool). if b then line.0 ∷ filter test (users lines) else filter test (users lines)) yes_kept)) (behind (named line.0) (map named (filter test (users lines))) (named user) rest)
        | inr not_kept ↦ subst (λ xs. Contains (map named xs) (named user)) (sym (ap (λ (b : Bool). if b then line.0 ∷ filter test (users lines) else filter test (users lines)) not_kept)) rest
      ])
]

-- a host who has a key and may speak
by_key : (z : Setting) (tables : ℕ) (host user : List ℕ) (key : Option UserKey) → (known_at z tables).key host ≡ key → is_some key ≡ true → (known_at z tables).speaks host user ≡ true → Contains (speakers z tables user) (key_name z.tables tables host)
by_key z tables host user (Some key) found some may = kept (key_name z.tables tables) (λ host. (known_at z tables).speaks host user) (tables_at z.tables tables).keys host key found may
by_key z tables host user None found some may = absurd (cc)

-- a user may speak for himself
himself : (z : Setting) (tables : ℕ) (user : List ℕ) → (known_at z tables).speaks user user ≡ true
unfolding may_speak
himself z tables user = rw ((bytes_eq-Decides user user).1 refl) refl

-- so a user who has a key is among his own speakers
pub user_speaks : (z : Setting) (tables : ℕ) (user : List ℕ) → is_some ((known_at z tables).key user) ≡ true → Contains (speakers z tables user) (key_name z.tables tables user)
user_speaks z tables user some = by_key z tables user user ((known_at z tables).key user) refl some (himself z tables user)

-- the name whose key was used may speak
named_speaker : (z : Setting) (tables : ℕ) (host user : List ℕ) (may known : Bool) → (known_at z tables).speaks host user ≡ may → is_some ((known_at z tables).key host) ≡ known → MaySpeak (speakers z tables user) (name_where may (if known then Some (key_name z.tables tables host) else None))
named_speaker z tables host user true true may known = by_key z tables host user ((known_at z tables).key host) refl known may
named_speaker z tables host user true false may known = tt
named_speaker z tables host user false known may is = tt

pub used_speaks : (z : Setting) (tables : ℕ) (host user : List ℕ) → MaySpeak (speakers z tables user) (name_where ((known_at z tables).speaks host user) (known_name z tables host))
used_speaks z tables host user = named_speaker z tables host user ((known_at z tables).speaks host user) (is_some ((known_at z tables).key host)) refl refl
