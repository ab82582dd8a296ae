-- That the tests of tables and of conversations' keys decide.
use Rattle.std.proofs.Common.{◌≡◌, ◌↔◌, ℕ, zero, suc, ◌<◌, ◌≤◌, List, [], ◌∷◌, length, Some, None, Option, Bool, true, false, ◌&&◌, inl, inr, sym, refl, subst, ap, ◌∙◌, arith, option_map, unwrap_or, map, take, if◌then◌else◌, get_or, Bor}
use Rattle.std.proofs.lemmas.Bool.{and_parts, and_from, cases_Bool, cases_lt, false_from_ne_true, true≢false}
use Rattle.std.proofs.lemmas.List.{get_or_past}
use Rattle.std.proofs.lemmas.Slice.Eq.{bytes_eq-Decides}
use Rattle.std.specs.List.{list_all}
use Rattle.std.specs.Map.{lookup}
use Rattle.std.specs.Str.{bytes_eq}
use Rattle.auth_tables.specs.Keys.{KeyLine, UserKey, key_of, user_at}
use Rattle.roles.specs.declared.key.SkKey.{SkKey}
use Rattle.symbolic_runs.specs.Moves.{Role, client, server, mail_client, mail_server}
use Rattle.symbolic_runs.specs.Spellings.{Atoms, bytes_of}
use Rattle.symbolic_runs.specs.Trees.{long_key, password}
use Rattle.wire_histories.specs.declared.step.Step.{Step}
use Rattle.wire_histories.specs.declared.step.Step.TheVariants.{Start, Out, In, Ask, Heard, Unheard, Accept, Fail, Reply, Refused, AsGot, AsGave, AsEnd, Restart, Reload}
use Rattle.wire_histories.specs.Histories.{History}
use Rattle.wire_histories.specs.Legal.{Setting, Spoken, Tables, tables_at}
use Rattle.wire_histories.specs.Noted.{noted_key}
use Rattle.clean_runs.specs.Clean.{ReadsHolder, ReadsKept, ReadsPassword, ReadsSpoken, ReadsTables}
use Rattle.clean_runs.specs.KeyNames.{before_first, holds, key_in, key_name, named_by, with_number}
use Rattle.clean_runs.specs.Labels.{Labelling}
use Rattle.clean_runs.specs.Runs.{role_by}
use Rattle.trace_runs.specs.Tables.{held_by, reads_below, reads_held, reads_holder, reads_key, reads_password, reads_tables, reads_user, reads_users, tables_of}
use Rattle.trace_runs.specs.Words.{reads}
use Rattle.trace_runs.proofs.WordLaws.{is_so_read, so_is_read}

-- ---- the tables

password_read : (atoms : Atoms) (name : List ℕ) (o : Option (List ℕ)) → reads_password atoms name o ≡ true → ReadsPassword atoms name o
password_read atoms name None h = tt
password_read atoms name (Some text) h = is_so_read (bytes_of atoms (password name)) text h

read_password : (atoms : Atoms) (name : List ℕ) (o : Option (List ℕ)) → ReadsPassword atoms name o → reads_password atoms name o ≡ true
read_password atoms name None h = refl
read_password atoms name (Some text) h = so_is_read (bytes_of atoms (password name)) text h

-- what a look-up finds stands in a line that passes
found_passes : (passes : List ℕ → Bool) (name : List ℕ) (lines : List KeyLine) (key : UserKey) → lookup (bytes_eq name) lines ≡ Some key → list_all (λ line. passes line.0) lines ≡ true → passes name ≡ true
found_passes passes name [] key e h = absurd (let so : None ≡ Some key = e in cc)
found_passes passes name (line ∷ lines) key e h =
    let parts = and_parts (passes line.0) (list_all (λ other. passes other.0) lines) h in
    elim (cases_Bool (bytes_eq name line.0)) [
      | inl same ↦ subst (λ (user : List ℕ). passes user ≡ true) (sym ((bytes_eq-Decides name line.0).0 same)) parts.0
      | inr other ↦ (let rest : lookup (bytes_eq name) lines ≡ Some key = rw other at e in found_passes passes name lines key rest parts.1)
    ]

all_pass : (passes : List ℕ → Bool) (lines : List KeyLine) → ((name : List ℕ) → passes name ≡ true) → list_all (λ line. passes line.0) lines ≡ true
all_pass passes [] h = refl
all_pass passes (line ∷ lines) h = and_from (passes line.0) (list_all (λ other. passes other.0) lines) (h line.0) (all_pass passes lines h)

below : (atoms : Atoms) (tables : List Tables) (most number : ℕ) → number < most → reads_below atoms tables most ≡ true → reads_users atoms tables number ≡ true
below atoms tables zero number less h = absurd (omega (arith, less))
below atoms tables (suc most) number less h =
    let parts = and_parts (reads_users atoms tables most) (reads_below atoms tables most) h in
    elim (cases_lt number most) [
      | inl before ↦ below atoms tables most number before parts.1
      | inr last ↦ (
          let same : most ≡ number = omega (arith, less, last) in
          subst (λ (n : ℕ). reads_users atoms tables n ≡ true) same parts.0)
    ]

all_below : (atoms : Atoms) (tables : List Tables) (most : ℕ) → ((number : ℕ) → reads_users atoms tables number ≡ true) → reads_below atoms tables most ≡ true
all_below atoms tables zero h = refl
all_below atoms tables (suc most) h = and_from (reads_users atoms tables most) (reads_below atoms tables most) (h most) (all_below atoms tables most h)

user_read : (atoms : Atoms) (name : List ℕ) (o : Option UserKey) (key : UserKey) → o ≡ Some key → reads_key atoms name o ≡ true → reads_key atoms name (Some key) ≡ true
user_read atoms name o key e h = subst (λ (x : Option UserKey). reads_key atoms name x ≡ true) e h

-- a number at which no tables stand
none_past : (tables : List Tables) (number : ℕ) (name : List ℕ) (key : UserKey) → length tables ≤ number → key_of name (tables_at tables number).keys ≡ Some key → ⊥
none_past tables number name key past e =
    let empty : tables_at tables number ≡ record { keys = []; speaks = [] } = get_or_past tables number (record { keys = []; speaks = [] }) past in
    let so : key_of name [] ≡ Some key = subst (λ (t : Tables). key_of name t.keys ≡ Some key) empty e in
    let gone : None ≡ Some key = so in
    cc

tables_read : (atoms : Atoms) (z : Setting) → reads_tables atoms z.tables ≡ true → ReadsTables atoms z
tables_read atoms z h = λ number name key e. elim (cases_lt number (length z.tables)) [
  | inl there ↦ (
      let users = below atoms z.tables (length z.tables) number there h in
      let user = found_passes (reads_user atoms z.tables number) name (tables_at z.tables number).keys key e users in
      let read = user_read atoms (key_name z.tables number name) (key_in z.tables number name) key e user in
      let parts = and_parts (reads atoms (long_key (key_name z.tables number name)) key.des) (reads_password atoms (key_name z.tables number name) key.password) read in (
        is_so_read (bytes_of atoms (long_key (key_name z.tables number name))) key.des parts.0,
        password_read atoms (key_name z.tables number name) key.password parts.1,
      ))
  | inr past ↦ absurd (none_past z.tables number name key past e)
]

key_read : (atoms : Atoms) (name : List ℕ) (o : Option UserKey) → ((key : UserKey) → o ≡ Some key → reads_key atoms name (Some key) ≡ true) → reads_key atoms name o ≡ true
key_read atoms name None h = refl
key_read atoms name (Some key) h = h key refl

read_tables : (atoms : Atoms) (z : Setting) → ReadsTables atoms z → reads_tables atoms z.tables ≡ true
read_tables atoms z h = all_below atoms z.tables (length z.tables) (λ number.
    all_pass (reads_user atoms z.tables number) (tables_at z.tables number).keys (λ name.
    key_read atoms (key_name z.tables number name) (key_in z.tables number name) (λ key e.
    let both = h number name key e in
    and_from (reads atoms (long_key (key_name z.tables number name)) key.des) (reads_password atoms (key_name z.tables number name) key.password)
    (so_is_read (bytes_of atoms (long_key (key_name z.tables number name))) key.des both.0)
    (read_password atoms (key_name z.tables number name) key.password both.1))))

pub decides_tables : (atoms : Atoms) (z : Setting) → (reads_tables atoms z.tables ≡ true) ↔ ReadsTables atoms z
decides_tables atoms z = (tables_read atoms z, read_tables atoms z)

-- ---- keys alone

abbrev only_keys : List Tables → List Tables
only_keys tables = tables_of (map (λ t. t.keys) tables)

same_keys_at : (tables : List Tables) (number : ℕ) → (tables_at (only_keys tables) number).keys ≡ (tables_at tables number).keys
same_keys_at [] number = refl
same_keys_at (t ∷ tables) zero = refl
same_keys_at (t ∷ tables) (suc number) = same_keys_at tables number

same_before : (tables : List Tables) (number : ℕ) (name : List ℕ) (key : UserKey) → before_first (take number (only_keys tables)) name key ≡ before_first (take number tables) name key
same_before [] zero name key = refl
same_before [] (suc number) name key = refl
same_before (t ∷ tables) zero name key = refl
same_before (t ∷ tables) (suc number) name key = ap (λ (n : ℕ). if holds t name key then 0 else suc n) (same_before tables number name key)

same_named : (tables : List Tables) (number : ℕ) (name : List ℕ) (o : Option UserKey) → named_by (only_keys tables) number name o ≡ named_by tables number name o
same_named tables number name None = refl
same_named tables number name (Some key) = ap (with_number name) (same_before tables number name key)

same_in : (tables : List Tables) (number : ℕ) (name : List ℕ) → key_in (only_keys tables) number name ≡ key_in tables number name
same_in tables number name = ap (key_of name) (same_keys_at tables number)

same_name : (tables : List Tables) (number : ℕ) (name : List ℕ) → key_name (only_keys tables) number name ≡ key_name tables number name
same_name tables number name =
    ap (named_by (only_keys tables) number name) (same_in tables number name)
    ∙ same_named tables number name (key_in tables number name)

same_user : (atoms : Atoms) (tables : List Tables) (number : ℕ) (name : List ℕ) → reads_user atoms (only_keys tables) number name ≡ reads_user atoms tables number name
same_user atoms tables number name =
    ap (λ (x : List ℕ). reads_key atoms x (key_in (only_keys tables) number name)) (same_name tables number name)
    ∙ ap (λ (x : Option UserKey). reads_key atoms (key_name tables number name) x) (same_in tables number name)

same_all : (p q : List ℕ → Bool) (lines : List KeyLine) → ((name : List ℕ) → p name ≡ q name) → list_all (λ line. p line.0) lines ≡ list_all (λ line. q line.0) lines
same_all p q [] h = refl
same_all p q (line ∷ lines) h =
    ap (λ (x : Bool). x && list_all (λ other. p other.0) lines) (h line.0) ∙ ap (λ (x : Bool). q line.0 && x) (same_all p q lines h)

same_users : (atoms : Atoms) (tables : List Tables) (number : ℕ) → reads_users atoms (only_keys tables) number ≡ reads_users atoms tables number
same_users atoms tables number =
    ap (λ (lines : List KeyLine). list_all (λ line. reads_user atoms (only_keys tables) number line.0) lines) (same_keys_at tables number)
    ∙ same_all (reads_user atoms (only_keys tables) number) (reads_user atoms tables number) (tables_at tables number).keys (same_user atoms tables number)

same_below : (atoms : Atoms) (tables : List Tables) (most : ℕ) → reads_below atoms (only_keys tables) most ≡ reads_below atoms tables most
same_below atoms tables zero = refl
same_below atoms tables (suc most) =
    ap (λ (x : Bool). x && reads_below atoms (only_keys tables) most) (same_users atoms tables most)
    ∙ ap (λ (x : Bool). reads_users atoms tables most && x) (same_below atoms tables most)

same_length : (tables : List Tables) → length (only_keys tables) ≡ length tables
same_length [] = refl
same_length (t ∷ tables) = ap (λ (n : ℕ). suc n) (same_length tables)

-- the test of tables with the same keys decides too
pub decides_keys : (atoms : Atoms) (lists : List (List KeyLine)) (so : Bool) (z : Setting) → so ≡ reads_tables atoms (tables_of lists) → map (λ t. t.keys) z.tables ≡ lists → (so ≡ true) ↔ ReadsTables atoms z
decides_keys atoms lists so z e keys =
    let kept : reads_tables atoms (only_keys z.tables) ≡ reads_tables atoms z.tables =
    ap (reads_below atoms (only_keys z.tables)) (same_length z.tables) ∙ same_below atoms z.tables (length z.tables) in
    let whole : so ≡ reads_tables atoms z.tables = e ∙ (ap (λ (x : List (List KeyLine)). reads_tables atoms (tables_of x)) (sym keys) ∙ kept) in (
      (λ is. tables_read atoms z (sym whole ∙ is)),
      (λ is. whole ∙ read_tables atoms z is),
    )

-- ---- of the loops

pub keys_at : (tables : List (Bor (List KeyLine))) (number : ℕ) (table : Bor (List KeyLine)) → number < length tables → table ≡ get_or tables number table → (tables_at (tables_of (map (λ t. t.now) tables)) number).keys ≡ table.now
keys_at [] number table less e = absurd (omega (arith, less))
keys_at (t ∷ tables) zero table less e = ap (λ (x : Bor (List KeyLine)). x.now) (sym e)
keys_at (t ∷ tables) (suc number) table less e = keys_at tables number table (omega (arith, less)) e

front_of : (tables : List (Bor (List KeyLine))) (number : ℕ) → tables_of (map (λ t. t.now) (take number tables)) ≡ take number (tables_of (map (λ t. t.now) tables))
front_of [] zero = refl
front_of [] (suc number) = refl
front_of (t ∷ tables) zero = refl
front_of (t ∷ tables) (suc number) = ap (λ (more : List Tables). record { keys = t.now; speaks = [] } ∷ more) (front_of tables number)

-- how many stand before the first in the front of a list
pub first_in : (tables part : List (Bor (List KeyLine))) (number : ℕ) (user : List ℕ) (key : UserKey) (first : ℕ) → first ≡ before_first (tables_of (map (λ t. t.now) part)) user key → part ≡ take number tables → first ≡ before_first (take number (tables_of (map (λ t. t.now) tables))) user key
first_in tables part number user key first e f =
    e ∙ (ap (λ (x : List (Bor (List KeyLine))). before_first (tables_of (map (λ t. t.now) x)) user key) f
    ∙ ap (λ (x : List Tables). before_first x user key) (front_of tables number))

pub user_without : (atoms : Atoms) (tables : List Tables) (number : ℕ) (user : List ℕ) (keys : List KeyLine) → (tables_at tables number).keys ≡ keys → None ≡ key_of user keys → true ≡ reads_user atoms tables number user
user_without atoms tables number user keys at e =
    let found : None ≡ key_in tables number user = e ∙ ap (key_of user) (sym at) in
    ap (λ (o : Option UserKey). reads_key atoms (key_name tables number user) o) found

pub user_with : (atoms : Atoms) (tables : List Tables) (number : ℕ) (user : List ℕ) (keys : List KeyLine) (key : UserKey) (first : ℕ) (name : List ℕ) (so : Bool) → (tables_at tables number).keys ≡ keys → Some key ≡ key_of user keys → first ≡ before_first (take number tables) user key → name ≡ with_number user first → so ≡ reads_key atoms name (Some key) → so ≡ reads_user atoms tables number user
user_with atoms tables number user keys key first name so at e counted named is =
    let found : Some key ≡ key_in tables number user = e ∙ ap (key_of user) (sym at) in
    let whole : name ≡ named_by tables number user (Some key) = named ∙ ap (with_number user) counted in
    is ∙ (ap (λ (x : List ℕ). reads_key atoms x (Some key)) whole
    ∙ ap (λ (o : Option UserKey). reads_key atoms (named_by tables number user o) o) found)

-- the users of a table, one by one
pub one_user_more : (passes : List ℕ → Bool) (lines : List KeyLine) (place : ℕ) (user : List ℕ) → Some user ≡ user_at place lines → list_all (λ line. passes line.0) (take place lines) ≡ true → passes user ≡ true → list_all (λ line. passes line.0) (take (suc place) lines) ≡ true
one_user_more passes [] place user e h so = absurd (let none : Some user ≡ None = e in cc)
one_user_more passes (line ∷ lines) zero user e h so =
    let found : Some user ≡ Some line.0 = e in
    let same : user ≡ line.0 = cc in
    and_from (passes line.0) true (subst (λ (x : List ℕ). passes x ≡ true) same so) refl
one_user_more passes (line ∷ lines) (suc place) user e h so =
    let parts = and_parts (passes line.0) (list_all (λ other. passes other.0) (take place lines)) h in
    and_from (passes line.0) (list_all (λ other. passes other.0) (take (suc place) lines)) parts.0 (one_user_more passes lines place user e parts.1 so)

pub no_user_more : (passes : List ℕ → Bool) (lines : List KeyLine) (place : ℕ) → None ≡ user_at place lines → list_all (λ line. passes line.0) (take place lines) ≡ true → list_all (λ line. passes line.0) lines ≡ true
no_user_more passes [] place e h = refl
no_user_more passes (line ∷ lines) zero e h = absurd (let found : None ≡ Some line.0 = e in cc)
no_user_more passes (line ∷ lines) (suc place) e h =
    let parts = and_parts (passes line.0) (list_all (λ other. passes other.0) (take place lines)) h in
    and_from (passes line.0) (list_all (λ other. passes other.0) lines) parts.0 (no_user_more passes lines place e parts.1)

pub one_fails : (passes : List ℕ → Bool) (lines : List KeyLine) (place : ℕ) (user : List ℕ) → Some user ≡ user_at place lines → passes user ≡ false → list_all (λ line. passes line.0) lines ≡ false
one_fails passes [] place user e h = absurd (let none : Some user ≡ None = e in cc)
one_fails passes (line ∷ lines) zero user e h =
    let found : Some user ≡ Some line.0 = e in
    let same : user ≡ line.0 = cc in
    ap (λ (x : Bool). x && list_all (λ other. passes other.0) lines) (subst (λ (x : List ℕ). passes x ≡ false) same h)
one_fails passes (line ∷ lines) (suc place) user e h =
    ap (λ (x : Bool). passes line.0 && x) (one_fails passes lines place user e h) ∙ and_false (passes line.0)
  where
    and_false : (x : Bool) → (x && false) ≡ false
    and_false true = refl
    and_false false = refl

same_count : (tables : List (Bor (List KeyLine))) → length (tables_of (map (λ t. t.now) tables)) ≡ length tables
same_count [] = refl
same_count (t ∷ tables) = ap (λ (n : ℕ). suc n) (same_count tables)

-- all tables
pub all_read : (atoms : Atoms) (tables : List (Bor (List KeyLine))) (number : ℕ) → number ≡ length tables → reads_below atoms (tables_of (map (λ t. t.now) tables)) number ≡ true → true ≡ reads_tables atoms (tables_of (map (λ t. t.now) tables))
all_read atoms tables number e h =
    sym (ap (reads_below atoms (tables_of (map (λ t. t.now) tables))) (same_count tables ∙ sym e) ∙ h)

pub some_not_read : (atoms : Atoms) (tables : List (Bor (List KeyLine))) (number : ℕ) → number < length tables → reads_users atoms (tables_of (map (λ t. t.now) tables)) number ≡ false → false ≡ reads_tables atoms (tables_of (map (λ t. t.now) tables))
some_not_read atoms tables number less h =
    let all = tables_of (map (λ (t : Bor (List KeyLine)). t.now) tables) in
    sym (false_from_ne_true (reads_tables atoms all) (λ is.
    true≢false (sym (below atoms all (length all) number (rw (same_count tables) less) is) ∙ h)))

-- ---- the conversations

kept_read : (atoms : Atoms) (role : Role) (holder : List ℕ) (o : Option (SkKey × Option (List ℕ))) → reads_held atoms role holder (option_map (λ key. (key.des, key.password)) (option_map noted_key o)) ≡ true → ReadsKept atoms role holder o
kept_read atoms role holder None h = tt
kept_read atoms client holder (Some (key, secret)) h = is_so_read (bytes_of atoms (long_key holder)) key.des.0 h
kept_read atoms server holder (Some (key, secret)) h = is_so_read (bytes_of atoms (long_key holder)) key.des.0 h
kept_read atoms (mail_client kind) holder (Some (key, secret)) h = is_so_read (bytes_of atoms (password holder)) (unwrap_or secret []) h
kept_read atoms (mail_server kind) holder (Some (key, secret)) h = is_so_read (bytes_of atoms (long_key holder)) key.des.0 h

read_kept : (atoms : Atoms) (role : Role) (holder : List ℕ) (o : Option (SkKey × Option (List ℕ))) → ReadsKept atoms role holder o → reads_held atoms role holder (option_map (λ key. (key.des, key.password)) (option_map noted_key o)) ≡ true
read_kept atoms role holder None h = refl
read_kept atoms client holder (Some (key, secret)) h = so_is_read (bytes_of atoms (long_key holder)) key.des.0 h
read_kept atoms server holder (Some (key, secret)) h = so_is_read (bytes_of atoms (long_key holder)) key.des.0 h
read_kept atoms (mail_client kind) holder (Some (key, secret)) h = so_is_read (bytes_of atoms (password holder)) (unwrap_or secret []) h
read_kept atoms (mail_server kind) holder (Some (key, secret)) h = so_is_read (bytes_of atoms (long_key holder)) key.des.0 h

spoken_read : (atoms : Atoms) (role : Role) (holder : List ℕ) (o : Option Spoken) → reads_held atoms role holder (held_by o) ≡ true → ReadsSpoken atoms role holder o
spoken_read atoms role holder None h = tt
spoken_read atoms role holder (Some spoken) h = kept_read atoms role holder spoken.key h

read_spoken : (atoms : Atoms) (role : Role) (holder : List ℕ) (o : Option Spoken) → ReadsSpoken atoms role holder o → reads_held atoms role holder (held_by o) ≡ true
read_spoken atoms role holder None h = refl
read_spoken atoms role holder (Some spoken) h = read_kept atoms role holder spoken.key h

-- the test of the key that a conversation keeps decides
pub decides_held : (atoms : Atoms) (role : Role) (holder : List ℕ) (spoken : Option Spoken) (held : Option (List ℕ × Option (List ℕ))) (so : Bool) → so ≡ reads_held atoms role holder held → held_by spoken ≡ held → (so ≡ true) ↔ ReadsSpoken atoms role holder spoken
decides_held atoms role holder spoken held so e told =
    let is : so ≡ reads_held atoms role holder (held_by spoken) = e ∙ ap (reads_held atoms role holder) (sym told) in (
      (λ h. spoken_read atoms role holder spoken (sym is ∙ h)),
      (λ h. is ∙ read_spoken atoms role holder spoken h),
    )

-- the key of the conversation that a step starts
pub holder_read : (atoms : Atoms) (z : Setting) (l : Labelling) (past : History) (step : Step) → reads_holder atoms z l past step ≡ true → ReadsHolder atoms z l past step
holder_read atoms z l past (Start conv protocol role random) h = spoken_read atoms (role_by protocol role) (l.holder conv) (z.spoken conv) h
holder_read atoms z l past (AsGot session b words) h = tt
holder_read atoms z l past (Out number conv b) h = tt
holder_read atoms z l past (In conv b) h = tt
holder_read atoms z l past (Ask number conv b) h = tt
holder_read atoms z l past (Heard conv b) h = tt
holder_read atoms z l past (Unheard conv) h = tt
holder_read atoms z l past (Accept conv cuid suid) h = tt
holder_read atoms z l past (Fail conv cause) h = tt
holder_read atoms z l past (Reply conv answer) h = tt
holder_read atoms z l past (Refused node answer) h = tt
holder_read atoms z l past (AsGave number session b) h = tt
holder_read atoms z l past (AsEnd session) h = tt
holder_read atoms z l past (Restart node) h = tt
holder_read atoms z l past Reload h = tt

pub read_holder : (atoms : Atoms) (z : Setting) (l : Labelling) (past : History) (step : Step) → ReadsHolder atoms z l past step → reads_holder atoms z l past step ≡ true
read_holder atoms z l past (Start conv protocol role random) h = read_spoken atoms (role_by protocol role) (l.holder conv) (z.spoken conv) h
read_holder atoms z l past (AsGot session b words) h = refl
read_holder atoms z l past (Out number conv b) h = refl
read_holder atoms z l past (In conv b) h = refl
read_holder atoms z l past (Ask number conv b) h = refl
read_holder atoms z l past (Heard conv b) h = refl
read_holder atoms z l past (Unheard conv) h = refl
read_holder atoms z l past (Accept conv cuid suid) h = refl
read_holder atoms z l past (Fail conv cause) h = refl
read_holder atoms z l past (Reply conv answer) h = refl
read_holder atoms z l past (Refused node answer) h = refl
read_holder atoms z l past (AsGave number session b) h = refl
read_holder atoms z l past (AsEnd session) h = refl
read_holder atoms z l past (Restart node) h = refl
read_holder atoms z l past Reload h = refl
