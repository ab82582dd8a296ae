-- Each session of the authentication server does what its requests leave, each by the tables that were told then: these don't
-- change once it was asked by them.
use Rattle.std.proofs.Common.{◌≡◌, ℕ, zero, suc, ◌<◌, List, [], ◌∷◌, ◌++◌, map, length, reverse, Option, Some, None, Bool, true, false, not, ◌||◌, ◌&&◌, ◌==◌, ◌+◌, if◌then◌else◌, append-nil, length-append, refl, sym, ap, subst, ◌∙◌, ◌⊎◌, inl, inr, arith}
use Rattle.std.specs.Str.{bytes_eq}
use Rattle.std.specs.List.{slice_index_or}
use Rattle.std.proofs.lemmas.List.{reverse-append}
use Rattle.std.specs.Map.{lookup}
use Rattle.std.specs.Prelude.{unwrap_or}
use Rattle.std.proofs.Math.Path.{fun_ext}
use Rattle.std.proofs.lemmas.Bool.{eqb-true, or_parts}
use Rattle.std.proofs.lemmas.Slice.Eq.{bytes_eq-Decides}
use Rattle.wire_histories.specs.declared.step.Step.{Step}
use Rattle.wire_histories.specs.declared.step.Step.TheVariants as s
use Rattle.auth_tables.specs.Lines as tables
use Rattle.auth_tables.specs.Keys.{key_of, keys_in}
use Rattle.auth_tables.specs.Speaks.{SpeakLine as HostLine, may_speak, names_in, names_of, speaks_in}
use Rattle.auth_server.specs.Requests as req
use Rattle.auth_server.specs.Requests.{asked_so, is_served, kind_of, needed}
use Rattle.auth_server.specs.Answers.{Knowledge, Posed, answer_in, held_in, is_over_in, posed}
use Rattle.wire_histories.specs.Histories.{Deal, deals_of, ended, replied, requested}
use Rattle.wire_histories.specs.Legal.{Tables, known_at, tables_at}
use Rattle.wire_histories.specs.Sessions.{Came, IsLong, IsSession, MayCome, ends_by, posed_as, posed_by, replies_to, session_deals}
use Rattle.wire_histories.specs.Sessions as w
use Rattle.world_history.specs.Acts.{Act, Domain, KeyLine, SpeakLine, Reloaded, Restarted, Asked, domain, key_lines, speak_lines, was_asked, were_used}
use Rattle.world_history.specs.Scripts.{has_length, is_misshaped, is_unfit}
use Rattle.world_history.specs.Worlds.{Done, done_by, has_ended, history, known, messages_in, put_to, requests, session_steps, steps, steps_by, steps_to, was_misasked}
use Rattle.world_promises.specs.Agents.{conv_in}
use Rattle.world_promises.specs.Conditions.{AreDone, MayFollow}
use Rattle.world_history.specs.AllTables.{merged, past_tables, tables_of}
use Rattle.world_promises.specs.Settings.{setting}
use Rattle.world_promises.specs.LegalityStatements.{SessionsAre, record_of}
use Rattle.world_promises.proofs.SessionSame.{AllCame, came_more, deals_same, posed_same, session_same}
use Rattle.world_promises.proofs.StayLaws.{done_stays, reloaded, reloads_so, session_stays}
use Rattle.world_promises.proofs.StepLemmas.{AllStay, deals_at, deals_front, no_deals, stay_reversed, turn_each}

-- ---- what the server knows

-- a table in which each host has all of its names tells what the lines tell
same_host : (host other : List ℕ) → bytes_eq host other ≡ true → host ≡ other
same_host host other is = (bytes_eq-Decides host other).0 is

-- a line is the host's
abbrev any_host : List ℕ → List HostLine → Bool
any_host host [] = false
any_host host (line ∷ lines) = bytes_eq host line.0 || any_host host lines

one_line : (b any : Bool) (x y : List (List ℕ)) (rest : Option (List (List ℕ))) → (b ≡ true → x ≡ y) → rest ≡ (if any then Some y else None) → (if b then Some x else rest) ≡ (if b || any then Some y else None)
one_line true any x y rest same later = ap (λ n. Some n) (same refl)
one_line false any x y rest same later = later

found_names : (all lines : List HostLine) (host : List ℕ) → lookup (bytes_eq host) (map (λ line. (line.0, names_in all line.0)) lines) ≡ (if any_host host lines then Some (names_in all host) else None)
found_names all [] host = refl
found_names all (line ∷ lines) host =
    one_line (bytes_eq host line.0) (any_host host lines) (names_in all line.0) (names_in all host) (lookup (bytes_eq host) (map (λ l. (l.0, names_in all l.0)) lines)) (λ is. ap (names_in all) (sym (same_host host line.0 is))) (found_names all lines host)

no_names : (lines : List HostLine) (host : List ℕ) → any_host host lines ≡ false → names_in lines host ≡ []
no_names [] host none = refl
no_names (line ∷ lines) host none =
    let parts = or_parts (bytes_eq host line.0) (any_host host lines) none in
    ap (λ b. (if b then line.1 else []) ++ names_in lines host) parts.0 ∙ no_names lines host parts.1

names_by : (any : Bool) (names : List (List ℕ)) → (any ≡ false → names ≡ []) → unwrap_or (if any then Some names else None) [] ≡ names
names_by true names none = refl
names_by false names none = sym (none refl)

merged_names : (lines : List HostLine) (host : List ℕ) → names_of host (merged lines) ≡ names_in lines host
merged_names lines host = ap (λ found. unwrap_or found []) (found_names lines lines host) ∙ names_by (any_host host lines) (names_in lines host) (no_names lines host)

-- what the setting's server knows
abbrev merged_speak : List HostLine → List ℕ → List ℕ → Bool
merged_speak lines host user = may_speak (names_of host (merged lines)) host user

abbrev named_speak : List HostLine → List ℕ → List ℕ → Bool
named_speak lines host user = may_speak (names_in lines host) host user

same_speaks : (lines : List HostLine) → merged_speak lines ≡ named_speak lines
same_speaks lines = fun_ext (λ host. fun_ext (λ user. ap (λ names. may_speak names host user) (merged_names lines host)))

abbrev known_as : List Act → (List ℕ → List ℕ → Bool) → Knowledge
known_as acts speaks = record { dom = domain acts; key = λ user. key_of user (keys_in (tables.counted (key_lines acts))); speaks = speaks }

-- what is known by the tables of each number
abbrev known_by : List Act → ℕ → Knowledge
known_by acts = known_at (setting acts)

pub past_number : (acts : List Act) → length (past_tables acts) ≡ reloaded acts
past_number [] = refl
past_number (Reloaded ∷ before) = length-append (past_tables before) (tables_of before ∷ []) ∙ ap (λ n. n + 1) (past_number before)
past_number (act ∷ before) = past_number before

last_of : (xs : List Tables) (y d : Tables) → slice_index_or (xs ++ y ∷ []) (length xs) d ≡ y
last_of [] y d = refl
last_of (x ∷ xs) y d = last_of xs y d

-- those of a number that stand before are the same, whatever is behind them
early_of : (xs ys zs : List Tables) (n : ℕ) (d : Tables) → n < length xs → slice_index_or (xs ++ ys) n d ≡ slice_index_or (xs ++ zs) n d
early_of [] ys zs n d low = absurd (omega arith)
early_of (x ∷ xs) ys zs zero d low = refl
early_of (x ∷ xs) ys zs (suc n) d low = early_of xs ys zs n d (omega arith)

abbrev known_of : List ℕ → Tables → Knowledge
known_of dom t = record { dom = dom; key = λ user. key_of user t.keys; speaks = λ host user. may_speak (names_of host t.speaks) host user }

known_now : (acts : List Act) → known_by acts (reloaded acts) ≡ known acts
known_now acts =
    ap (λ n. known_by acts n) (sym (past_number acts))
    ∙ (ap (known_of (domain acts)) (last_of (past_tables acts) (tables_of acts) (record { keys = []; speaks = [] }))
    ∙ ap (known_as acts) (same_speaks (speaks_in (tables.counted (speak_lines acts)))))

-- ---- requests

-- one that comes now
abbrev came_at : List Act → List ℕ → List (List ℕ) → Came
came_at acts request words = record { tables = reloaded acts; request = request; words = words }

-- all that a session was asked, the newest first
abbrev asked_of : List Act → List ℕ → List Came
asked_of [] session = []
asked_of (Asked name request words ∷ before) session = if bytes_eq name session then came_at before request words ∷ asked_of before session else asked_of before session
asked_of (act ∷ before) session = asked_of before session

unasked : (acts : List Act) (session : List ℕ) → was_asked acts ≡ false → asked_of acts session ≡ []
unasked [] session none = refl
unasked (Asked name request words ∷ before) session none = cc none
unasked (act ∷ before) session none = unasked before session none

-- the tables of a number were used
abbrev IsUsed : List Act → ℕ → Type 0
IsUsed acts n = (n < reloaded acts) ⊎ ((n ≡ reloaded acts) × (were_used acts ≡ true))

used_later : (acts : List Act) (n : ℕ) → IsUsed acts n → IsUsed (Reloaded ∷ acts) n
used_later acts n (inl low) = inl (omega arith)
used_later acts n (inr now) = let same = now.0 in inl (omega (arith, same))

used_still : (acts : List Act) (name request : List ℕ) (words : List (List ℕ)) (n : ℕ) → IsUsed acts n → IsUsed (Asked name request words ∷ acts) n
used_still acts name request words n (inl low) = inl low
used_still acts name request words n (inr now) = inr (now.0, refl)

all_used : (acts : List Act) (session : List ℕ) → AllCame (λ c. IsUsed acts c.tables) (asked_of acts session)
all_used [] session = tt
all_used (Reloaded ∷ before) session = came_more (λ c. IsUsed before c.tables) (λ c. IsUsed (Reloaded ∷ before) c.tables) (asked_of before session) (λ c used. used_later before c.tables used) (all_used before session)
all_used (Asked name request words ∷ before) session = one (bytes_eq name session) (came_more (λ c. IsUsed before c.tables) (λ c. IsUsed (Asked name request words ∷ before) c.tables) (asked_of before session) (λ c used. used_still before name request words c.tables used) (all_used before session))
  where
    one : (b : Bool) → AllCame (λ c. IsUsed (Asked name request words ∷ before) c.tables) (asked_of before session) → AllCame (λ c. IsUsed (Asked name request words ∷ before) c.tables) (if b then came_at before request words ∷ asked_of before session else asked_of before session)
    one true all = (inr (refl, refl), all)
    one false all = all
all_used (act ∷ before) session = all_used before session

-- tables that weren't used yet are of no request
older : (acts : List Act) (n : ℕ) → were_used acts ≡ false → IsUsed acts n → n < reloaded acts
older acts n none (inl low) = low
older acts n none (inr now) = cc (sym none ∙ now.1)

-- by an act that changes the newest tables, and by one behind which there are others, the tables before stay
same_early : (acts later : List Act) (n : ℕ) (ys : List Tables) → domain later ≡ domain acts → (setting later).tables ≡ past_tables acts ++ ys → n < reloaded acts → known_by acts n ≡ known_by later n
same_early acts later n ys dom is low =
    let number = past_number acts in
    ap (λ d. known_of d (tables_at (setting acts).tables n)) (sym dom)
    ∙ ap (known_of (domain later)) (early_of (past_tables acts) (tables_of acts ∷ []) ys n (record { keys = []; speaks = [] }) (omega (arith, number)) ∙ ap (λ ts. tables_at ts n) (sym is))

-- the newest tables of before, behind a reading again
same_last : (acts : List Act) (n : ℕ) → IsUsed acts n → known_by acts n ≡ known_by (Reloaded ∷ acts) n
same_last acts n used =
    let number = past_number acts in
    let more = length-append (past_tables acts) (tables_of acts ∷ []) in
    ap (known_of (domain acts)) (ap (λ ts. tables_at ts n) (sym (append-nil (past_tables acts ++ tables_of acts ∷ [])))
    ∙ early_of (past_tables acts ++ tables_of acts ∷ []) [] (tables_of (Reloaded ∷ acts) ∷ []) n (record { keys = []; speaks = [] }) (below used number more))
  where
    below : IsUsed acts n → length (past_tables acts) ≡ reloaded acts → length (past_tables acts ++ tables_of acts ∷ []) ≡ length (past_tables acts) + 1 → n < length (past_tables acts ++ tables_of acts ∷ [])
    below (inl low) number more = omega (arith, number, more)
    below (inr now) number more = let same = now.0 in omega (arith, number, more, same)

-- ---- what a session was asked, and what it answered

-- the newest is of a kind that is served
abbrev first_served : List Came → Bool
first_served [] = true
first_served (came ∷ before) = is_served (kind_of came.request)

first_is : (acts : List Act) (session : List ℕ) → was_misasked acts session ≡ false → first_served (asked_of acts session) ≡ true
first_is [] session right = refl
first_is (Asked name request words ∷ before) session right =
    one (bytes_eq name session) (is_served (kind_of request)) (was_misasked before session) (asked_of before session) (came_at before request words) refl right (first_is before session)
  where
    one : (named served missed : Bool) (all : List Came) (new : Came) → is_served (kind_of new.request) ≡ served → (if named then (if served then missed else true) else missed) ≡ false → (missed ≡ false → first_served all ≡ true) → first_served (if named then new ∷ all else all) ≡ true
    one true true missed all new is right so = is
    one true false missed all new is right so = cc right
    one false served missed all new is right so = so right
first_is (act ∷ before) session right = first_is before session right

-- it goes on
goes_by : (k : ℕ → Knowledge) (all : List Came) → first_served all ≡ true → is_over_in (posed_by k all) ≡ false → w.has_ended k all ≡ false
goes_by k [] served over = refl
goes_by k (came ∷ before) served over = ap (λ b. not b || w.is_over k (came ∷ before)) served ∙ over

if_parts : (a b : Bool) → (if a then true else b) ≡ false → (a ≡ false) × (b ≡ false)
if_parts true b none = cc none
if_parts false b none = (refl, none)

-- what was asked stands for the requests that were answered, unless one was of a kind that isn't served
abbrev ArePosed : List Act → List ℕ → Type 0
ArePosed acts session = was_misasked acts session ≡ false → posed_by (known_by acts) (asked_of acts session) ≡ requests acts session

pub record GoesOn (acts : List Act) (session : List ℕ) : Type 0 where
  all : posed_by (known_by acts) (asked_of acts session) ≡ requests acts session
  open_yet : w.has_ended (known_by acts) (asked_of acts session) ≡ false

goes_on : (acts : List Act) (session : List ℕ) → ArePosed acts session → has_ended acts session ≡ false → GoesOn acts session
goes_on acts session posed_so none =
    let parts = if_parts (was_misasked acts session) (is_over_in (requests acts session)) none in
    let all = posed_so parts.0 in
    record { all = all; open_yet = goes_by (known_by acts) (asked_of acts session) (first_is acts session parts.0) (ap is_over_in all ∙ parts.1) }

-- ---- a request fits

is_so : (b : Bool) → not b ≡ false → b ≡ true
is_so true h = refl
is_so false h = cc h

long_by : (size : ℕ) (wanted : Option ℕ) → has_length size wanted ≡ true → IsLong wanted size
long_by size None has = tt
long_by size (Some n) has = eqb-true size n has

long_if : (size kind : ℕ) (of : Option req.Challenge) (served : Bool) → is_served kind ≡ served → (served && not (has_length size (needed of kind))) ≡ false → IsLong (needed of kind) size
long_if size kind of true is none = long_by size (needed of kind) (is_so (has_length size (needed of kind)) none)
long_if size kind of false is none = subst (λ o. IsLong o size) (sym (ap (λ b. if b then Some (if req.is_mail kind && req.is_for kind of then 173 else 141) else None) is)) tt

some_by : (n : ℕ) → (n == 0) ≡ false → 0 < n
some_by zero none = cc none
some_by (suc n) none = omega arith

comes_by : (acts : List Act) (session request : List ℕ) (words : List (List ℕ)) → MayFollow acts (Asked session request words) → GoesOn acts session → is_misshaped acts session request ≡ false → MayCome (known_by acts) (asked_of acts session) (came_at acts request words)
comes_by acts session request words may on shape =
    let parts = or_parts (length request == 0) (is_served (kind_of request) && not (has_length (length request) (needed (held_in (requests acts session)) (kind_of request)))) shape in
    record {
      goes_on = on.open_yet;
      some = some_by (length request) parts.0;
      long = subst (λ ps. IsLong (needed (held_in ps) (kind_of request)) (length request)) (sym on.all) (long_if (length request) (kind_of request) (held_in (requests acts session)) (is_served (kind_of request)) refl parts.1);
      three = may.spelled.0;
      words = may.spelled.1;
    }

asked_fits : (acts : List Act) (session request : List ℕ) (words : List (List ℕ)) → is_unfit acts (Asked session request words) ≡ false → (has_ended acts session ≡ false) × (is_misshaped acts session request ≡ false)
unfolding is_unfit
asked_fits acts session request words fits = or_parts (has_ended acts session) (is_misshaped acts session request) fits

-- the domain is told while nothing was asked, and a table while nothing was asked by it
domain_early : (acts : List Act) (dom : List ℕ) → is_unfit acts (Domain dom) ≡ false → was_asked acts ≡ false
unfolding is_unfit
domain_early acts dom fits = (or_parts (was_asked acts) _ fits).0

key_early : (acts : List Act) (tuple : List ℕ) → is_unfit acts (KeyLine tuple) ≡ false → were_used acts ≡ false
unfolding is_unfit
key_early acts tuple fits = (or_parts (were_used acts) _ fits).0

speak_early : (acts : List Act) (tuple : List ℕ) → is_unfit acts (SpeakLine tuple) ≡ false → were_used acts ≡ false
unfolding is_unfit
speak_early acts tuple fits = (or_parts (were_used acts) _ fits).0

-- ---- what a request leaves

abbrev given_by : Bool → Bool → List ℕ → ℕ → List ℕ → List Step
given_by served over answer number session = if served then s.AsGave number session answer ∷ (if over then s.AsEnd session ∷ [] else []) else s.AsEnd session ∷ []

left_by : (n : ℕ) (served over named : Bool) (number : ℕ) (session name answer request : List ℕ) (words : List (List ℕ)) (past : List Deal) → bytes_eq session name ≡ named → deals_at n name (reverse (s.AsGot session request words ∷ given_by served over answer number session)) ++ past ≡ (if named then ends_by (not served || over) ++ ((if served then replied answer ∷ [] else []) ++ requested n request words ∷ past) else past)
left_by n true true true number session name answer request words past is = ap (λ b. (if b then ended ∷ [] else []) ++ ((if b then replied answer ∷ [] else []) ++ ((if b then requested n request words ∷ [] else []) ++ [])) ++ past) is
left_by n true false true number session name answer request words past is = ap (λ b. ((if b then replied answer ∷ [] else []) ++ ((if b then requested n request words ∷ [] else []) ++ [])) ++ past) is
left_by n false over true number session name answer request words past is = ap (λ b. ((if b then ended ∷ [] else []) ++ ((if b then requested n request words ∷ [] else []) ++ [])) ++ past) is
left_by n true true false number session name answer request words past is = ap (λ b. (if b then ended ∷ [] else []) ++ ((if b then replied answer ∷ [] else []) ++ ((if b then requested n request words ∷ [] else []) ++ [])) ++ past) is
left_by n true false false number session name answer request words past is = ap (λ b. ((if b then replied answer ∷ [] else []) ++ ((if b then requested n request words ∷ [] else []) ++ [])) ++ past) is
left_by n false over false number session name answer request words past is = ap (λ b. ((if b then ended ∷ [] else []) ++ ((if b then requested n request words ∷ [] else []) ++ [])) ++ past) is

-- ---- all acts

pub record IsLeft (acts : List Act) (name : List ℕ) : Type 0 where
  session : IsSession (known_by acts) (asked_of acts name)
  deals : deals_of name (record_of acts) ≡ session_deals (known_by acts) (asked_of acts name)
  posed_so : ArePosed acts name

abbrev next_number : List Act → ℕ
next_number before = length (messages_in (steps before))

-- an act that isn't a request leaves nothing of a session
no_deals_by : (n number : ℕ) (before : List Act) (done : Option Done) (name : List ℕ) → deals_at n name (reverse (steps_to number before done)) ≡ []
no_deals_by n number before None name = refl
no_deals_by n number before (Some done) name = no_deals n (conv_in done.turn) name _ (turn_each number done.turn (history before done.agent))

-- what is said of a session behind steps by which the tables stay
deals_by : (before : List Act) (new : List Step) (name : List ℕ) → AllStay new → deals_of name (reverse (steps before ++ new)) ≡ deals_at (reloaded before) name (reverse new) ++ deals_of name (record_of before)
deals_by before new name so =
    ap (deals_of name) (reverse-append (steps before) new)
    ∙ (deals_front name (reverse new) (record_of before) (stay_reversed new so)
    ∙ ap (λ n. deals_at n name (reverse new) ++ deals_of name (record_of before)) (reloads_so before))

-- an act by which a session is asked nothing, and what was known at its requests stays
kept : (before : List Act) (act : Act) (name : List ℕ) → deals_of name (record_of (act ∷ before)) ≡ deals_of name (record_of before) → asked_of (act ∷ before) name ≡ asked_of before name → requests (act ∷ before) name ≡ requests before name → was_misasked (act ∷ before) name ≡ was_misasked before name
    → AllCame (λ c. known_by before c.tables ≡ known_by (act ∷ before) c.tables) (asked_of before name) → IsLeft before name → IsLeft (act ∷ before) name
kept before act name says all answered missed same so = record {
  session = subst (IsSession (known_by (act ∷ before))) (sym all) (session_same (known_by before) (known_by (act ∷ before)) (asked_of before name) same so.session);
  deals = says ∙ (so.deals ∙ (deals_same (known_by before) (known_by (act ∷ before)) (asked_of before name) same ∙ ap (session_deals (known_by (act ∷ before))) (sym all)));
  posed_so = λ right. ap (posed_by (known_by (act ∷ before))) all
      ∙ (sym (posed_same (known_by before) (known_by (act ∷ before)) (asked_of before name) same) ∙ (so.posed_so (sym missed ∙ right) ∙ sym answered));
}

-- of an act that isn't a request nothing is said of a session
says_none : (before : List Act) (o : Option Done) (name : List ℕ) → deals_of name (reverse (steps before ++ steps_to (next_number before) before o)) ≡ deals_of name (record_of before)
says_none before o name =
    deals_by before (steps_to (next_number before) before o) name (done_stays (next_number before) before o)
    ∙ ap (λ ds. ds ++ deals_of name (record_of before)) (no_deals_by (reloaded before) (next_number before) before o name)

all_same : (k j : ℕ → Knowledge) (session : List Came) → ((came : Came) → k came.tables ≡ j came.tables) → AllCame (λ c. k c.tables ≡ j c.tables) session
all_same k j [] same = tt
all_same k j (came ∷ before) same = (same came, all_same k j before same)

-- a request
deals_so : (k : ℕ → Knowledge) (named : Bool) (all : List Came) (came : Came) → (if named then ends_by (w.has_ended k (came ∷ all)) ++ (replies_to k all came ++ requested came.tables came.request came.words ∷ session_deals k all) else session_deals k all) ≡ session_deals k (if named then came ∷ all else all)
deals_so k true all came = refl
deals_so k false all came = refl

session_by : (k : ℕ → Knowledge) (named : Bool) (all : List Came) (came : Came) → (named ≡ true → MayCome k all came) → IsSession k all → IsSession k (if named then came ∷ all else all)
session_by k true all came may so = (may refl, so)
session_by k false all came may so = so

-- what a request leaves, by those before it
abbrev leaves : ℕ → List Deal → List Posed → Posed → List Deal
leaves n past before p = ends_by (not (is_served (kind_of p.asked.request)) || is_over_in (p ∷ before)) ++ ((if is_served (kind_of p.asked.request) then replied (answer_in before p) ∷ [] else []) ++ requested n p.asked.request p.asked.words ∷ past)

posed_then : (k : ℕ → Knowledge) (named served missed : Bool) (all : List Came) (came : Came) (answered : List Posed) (p : Posed) → posed_as k came ≡ p → (missed ≡ false → posed_by k all ≡ answered) → (if named then (if served then missed else true) else missed) ≡ false
    → posed_by k (if named then came ∷ all else all) ≡ (if named then (if served then p ∷ answered else answered) else answered)
posed_then k true true missed all came answered p is so right = ap (λ q. q ∷ posed_by k all) is ∙ ap (λ ps. p ∷ ps) (so right)
posed_then k true false missed all came answered p is so right = cc right
posed_then k false served missed all came answered p is so right = so right

asked_left : (before : List Act) (session request : List ℕ) (words : List (List ℕ)) (name : List ℕ) → MayFollow before (Asked session request words) → IsLeft before session → IsLeft before name → IsLeft (Asked session request words ∷ before) name
unfolding session_steps
asked_left before session request words name may mine so =
    let fits = asked_fits before session request words may.fits in
    let on = goes_on before session mine.posed_so fits.0 in
    let k = known_by before in
    let came = came_at before request words in
    let p = put_to before request words in
    let now : posed_as k came ≡ p = ap (λ n. posed n (asked_so request words)) (known_now before) in
    let past = session_deals k (asked_of before name) in
    let steps_then = session_steps (next_number before) session (requests before session) p in
    let may_come : bytes_eq session name ≡ true → MayCome k (asked_of before name) came = λ is. subst (λ n. MayCome k (asked_of before n) came) (same_host session name is) (comes_by before session request words may on fits.1) in
    let gave : bytes_eq session name ≡ true → requests before session ≡ posed_by k (asked_of before name) = λ is. sym on.all ∙ ap (λ n. posed_by k (asked_of before n)) (same_host session name is) in
    record {
      session = session_by k (bytes_eq session name) (asked_of before name) came may_come so.session;
      deals =
          deals_by before steps_then name (session_stays (next_number before) session (requests before session) p)
          ∙ (ap (λ ds. deals_at (reloaded before) name (reverse steps_then) ++ ds) so.deals
          ∙ (left_by (reloaded before) (is_served (kind_of request)) (is_over_in (p ∷ requests before session)) (bytes_eq session name) (next_number before) session name (answer_in (requests before session) p) request words past refl
          ∙ (as_asked k came p now past (bytes_eq session name) (requests before session) gave
          ∙ deals_so k (bytes_eq session name) (asked_of before name) came)));
      posed_so = λ right. posed_then k (bytes_eq session name) (is_served (kind_of request)) (was_misasked before name) (asked_of before name) came (requests before name) p now so.posed_so right;
    }
  where
    as_asked : (k : ℕ → Knowledge) (came : Came) (p : Posed) → posed_as k came ≡ p → (past : List Deal) (named : Bool) (all : List Posed) → (named ≡ true → all ≡ posed_by k (asked_of before name)) → (if named then leaves (reloaded before) past all p else past) ≡ (if named then leaves (reloaded before) past (posed_by k (asked_of before name)) (posed_as k came) else past)
    as_asked k came p now past true all same = ap (λ ps. leaves (reloaded before) past ps p) (same refl) ∙ ap (leaves (reloaded before) past (posed_by k (asked_of before name))) (sym now)
    as_asked k came p now past false all same = refl

pub left : (acts : List Act) (name : List ℕ) → AreDone acts → IsLeft acts name
left [] name done = record { session = tt; deals = refl; posed_so = λ right. refl }
left (Domain dom ∷ before) name done = kept before (Domain dom) name (says_none before None name) refl refl refl
    (subst (AllCame (λ c. known_by before c.tables ≡ known_by (Domain dom ∷ before) c.tables)) (sym (unasked before name (domain_early before dom done.0.fits))) tt) (left before name done.1)
left (KeyLine tuple ∷ before) name done = kept before (KeyLine tuple) name (says_none before None name) refl refl refl
    (came_more (λ c. IsUsed before c.tables) (λ c. known_by before c.tables ≡ known_by (KeyLine tuple ∷ before) c.tables) (asked_of before name)
    (λ c used. same_early before (KeyLine tuple ∷ before) c.tables (tables_of (KeyLine tuple ∷ before) ∷ []) refl refl (older before c.tables (key_early before tuple done.0.fits) used)) (all_used before name)) (left before name done.1)
left (SpeakLine tuple ∷ before) name done = kept before (SpeakLine tuple) name (says_none before None name) refl refl refl
    (came_more (λ c. IsUsed before c.tables) (λ c. known_by before c.tables ≡ known_by (SpeakLine tuple ∷ before) c.tables) (asked_of before name)
    (λ c used. same_early before (SpeakLine tuple ∷ before) c.tables (tables_of (SpeakLine tuple ∷ before) ∷ []) refl refl (older before c.tables (speak_early before tuple done.0.fits) used)) (all_used before name)) (left before name done.1)
left (Reloaded ∷ before) name done = kept before Reloaded name (ap (deals_of name) (reverse-append (steps before) (s.Reload ∷ []))) refl refl refl
    (came_more (λ c. IsUsed before c.tables) (λ c. known_by before c.tables ≡ known_by (Reloaded ∷ before) c.tables) (asked_of before name) (λ c used. same_last before c.tables used) (all_used before name)) (left before name done.1)
left (Restarted node ∷ before) name done = kept before (Restarted node) name (ap (deals_of name) (reverse-append (steps before) (s.Restart node ∷ []))) refl refl refl
    (all_same (known_by before) (known_by (Restarted node ∷ before)) (asked_of before name) (λ c. refl)) (left before name done.1)
left (Asked session request words ∷ before) name done = asked_left before session request words name done.0 (left before session done.1) (left before name done.1)
left (act ∷ before) name done = kept before act name (says_none before (done_by before act) name) refl refl refl
    (all_same (known_by before) (known_by (act ∷ before)) (asked_of before name) (λ c. refl)) (left before name done.1)

pub served : (acts : List Act) → AreDone acts → SessionsAre acts
served acts done name =
    let so = left acts name done in
    record {
      requests = asked_of acts name;
      session = so.session;
      later = [];
      left = sym so.deals;
    }
