-- What holds of every clean legal history holds of every front of a script's record that is clean.
use Rattle.std.proofs.Common.{◌≡◌, ◌≤◌, ◌<◌, ◌+◌, ℕ, zero, suc, length, take, Bool, true, false, ◌||◌, ◌⊎◌, inl, inr, arith, List, [], ◌∷◌, ◌++◌, append_assoc, Option, Some, None, refl, sym, subst, ap, ◌∙◌}
use Rattle.symbolic_runs.specs.Spellings.{Atoms}
use Rattle.std.specs.List.{list_any, slice_index_or}
use Rattle.wire_histories.specs.declared.step.Step.{Step}
use Rattle.wire_histories.specs.declared.step.Step.TheVariants.{AsEnd, AsGave, AsGot, Reload, Restart}
use Rattle.wire_histories.specs.Histories.{Act, Deal, History, IsNumbered, act_in, acts_of, deal_in, deals_of, ended, is_of, reloads_in, replied, requested}
use Rattle.wire_histories.specs.Sessions.{Came, IsSession, ends_by, has_ended, replies_to, session_deals}
use Rattle.auth_server.specs.Answers.{Knowledge}
use Rattle.auth_server.specs.Standing.{knowledge}
use Rattle.std.specs.Str.{bytes_eq}
use Rattle.std.specs.Prelude.{if◌then◌else◌}
use Rattle.world_promises.proofs.SessionSame.{AllCame, came_more, deals_same, session_same}
use Rattle.wire_histories.specs.Legal.{EndsByRestarts, IsConversation, IsLegal, IsServed, Setting, Spoken, Tables, known_at}
use Rattle.clean_runs.specs.Labels.{Labelling}
use Rattle.clean_runs.specs.Statements.{OfEveryCleanHistory}
use Rattle.world_history.specs.Scripts.{play}
use Rattle.world_promises.specs.Settings.{setting, setting_at}
use Rattle.world_promises.proofs.ScriptLaws.{scripts_are_legal}
use Rattle.world_promises.specs.Statements.{FrontsAreLegal, OfEveryCleanScript}

-- ---- a front of a legal history is one

acts_append : (name : List ℕ) (later past : History) → acts_of name (later ++ past) ≡ acts_of name later ++ acts_of name past
acts_append name [] past = refl
acts_append name (step ∷ later) past = ap (λ (l : List Act). act_in name step ++ l) (acts_append name later past) ∙ sym (append_assoc (act_in name step) (acts_of name later) (acts_of name past))

-- those of a front stand behind those that came later
deals_end : (name : List ℕ) (later past : History) → (front : List Deal) × (deals_of name (later ++ past) ≡ front ++ deals_of name past)
deals_end name [] past = ([], refl)
deals_end name (step ∷ later) past =
    let more = deals_end name later past in
    let here = deal_in (reloads_in (later ++ past)) name step in
    (here ++ more.0, ap (λ (l : List Deal). here ++ l) more.1 ∙ sym (append_assoc here more.0 (deals_of name past)))

none_behind : (later past : List Act) → later ++ past ≡ [] → past ≡ []
none_behind [] past e = e
none_behind (act ∷ later) past e = absurd cc

conversation_front : (spoken : Option Spoken) (later past : List Act) → IsConversation spoken (later ++ past) → IsConversation spoken past
conversation_front None later past c = none_behind later past c
conversation_front (Some spoken) later past c = record {
  may = c.may;
  talk = c.talk;
  met = c.met;
  kept = c.kept;
  later = c.later ++ later;
  left = c.left ∙ sym (append_assoc c.later later past);
}

-- ---- what was answered within a front

-- the tables that were in force at the requests among these were such
abbrev DealHas : (ℕ → Type 0) → Deal → Type 0
DealHas P (requested n bytes words) = P n
DealHas P deal = Unit {0}

abbrev AllDeals : (ℕ → Type 0) → List Deal → Type 0
AllDeals P [] = Unit {0}
AllDeals P (deal ∷ more) = DealHas P deal × AllDeals P more

deals_behind : (P : ℕ → Type 0) (front rest : List Deal) → AllDeals P (front ++ rest) → AllDeals P rest
deals_behind P [] rest all = all
deals_behind P (deal ∷ front) rest all = deals_behind P front rest all.1

deals_before : (P : ℕ → Type 0) (front rest : List Deal) → AllDeals P (front ++ rest) → AllDeals P front
deals_before P [] rest all = tt
deals_before P (deal ∷ front) rest all = (all.0, deals_before P front rest all.1)

deals_both : (P : ℕ → Type 0) (front rest : List Deal) → AllDeals P front → AllDeals P rest → AllDeals P (front ++ rest)
deals_both P [] rest f r = r
deals_both P (deal ∷ front) rest f r = (f.0, deals_both P front rest f.1 r)

weaker_deal : (P Q : ℕ → Type 0) (deal : Deal) → ((n : ℕ) → P n → Q n) → DealHas P deal → DealHas Q deal
weaker_deal P Q (requested n bytes words) so has = so n has
weaker_deal P Q deal so has = tt

weaker_deals : (P Q : ℕ → Type 0) (deals : List Deal) → ((n : ℕ) → P n → Q n) → AllDeals P deals → AllDeals Q deals
weaker_deals P Q [] so all = tt
weaker_deals P Q (deal ∷ more) so all = (weaker_deal P Q deal so all.0, weaker_deals P Q more so all.1)

last_deal : (P : ℕ → Type 0) (front : List Deal) (last : Deal) → AllDeals P (front ++ last ∷ []) → DealHas P last
last_deal P [] last all = all.0
last_deal P (deal ∷ front) last all = last_deal P front last all.1

last_behind : (P : ℕ → Type 0) (front : List Deal) (last : Deal) (later : List Deal) (x : Deal) (mid : List Deal) → front ++ last ∷ [] ≡ later ++ x ∷ mid → AllDeals P (x ∷ mid) → DealHas P last
last_behind P front last [] x mid is all = last_deal P front last (subst (AllDeals P) (sym is) all)
last_behind P [] last (y ∷ []) x mid is all = absurd cc
last_behind P [] last (y ∷ z ∷ later) x mid is all = absurd cc
last_behind P (deal ∷ front) last (y ∷ later) x mid is all = last_behind P front last later x mid (let rest : front ++ last ∷ [] ≡ later ++ x ∷ mid = cc in rest) all

-- two ways to cut a list
record CutLater (later deals front rest : List Deal) : Type 0 where
  mid : List Deal
  is : later ≡ front ++ mid
  behind : rest ≡ mid ++ deals

record CutBefore (later deals front rest : List Deal) : Type 0 where
  first : Deal
  mid : List Deal
  is : front ≡ later ++ first ∷ mid
  behind : deals ≡ first ∷ mid ++ rest

cut : (later deals front rest : List Deal) → later ++ deals ≡ front ++ rest → CutLater later deals front rest ⊎ CutBefore later deals front rest
cut later deals [] rest is = inl (record { mid = later; is = refl; behind = sym is })
cut [] deals (y ∷ front) rest is = inr (record { first = y; mid = front; is = refl; behind = is })
cut (x ∷ later) deals (y ∷ front) rest is =
    let head : x ≡ y = cc in
    let tail : later ++ deals ≡ front ++ rest = cc in
    elim (cut later deals front rest tail) [
      | inl here ↦ inl (record { mid = here.mid; is = ap (λ z. z ∷ later) head ∙ ap (λ ds. y ∷ ds) here.is; behind = here.behind })
      | inr there ↦ inr (record { first = there.first; mid = there.mid; is = ap (λ z. z ∷ front) (sym head) ∙ ap (λ ds. x ∷ ds) there.is; behind = there.behind })
    ]

-- the requests of a session that left some deals, without those that left none of them
record Trimmed (P : ℕ → Type 0) (k : ℕ → Knowledge) (deals : List Deal) : Type 0 where
  requests : List Came
  session : IsSession k requests
  later : List Deal
  left : session_deals k requests ≡ later ++ deals
  among : AllCame (λ c. P c.tables) requests

abbrev ending : (k : ℕ → Knowledge) (came : Came) (before : List Came) → List Deal
ending k came before = ends_by (has_ended k (came ∷ before)) ++ replies_to k before came

abbrev its_request : Came → Deal
its_request came = requested came.tables came.request came.words

deals_so : (k : ℕ → Knowledge) (came : Came) (before : List Came) → session_deals k (came ∷ before) ≡ (ending k came before ++ its_request came ∷ []) ++ session_deals k before
deals_so k came before =
    sym (append_assoc (ends_by (has_ended k (came ∷ before))) (replies_to k before came) (its_request came ∷ session_deals k before))
    ∙ sym (append_assoc (ending k came before) (its_request came ∷ []) (session_deals k before))

all_among : (P : ℕ → Type 0) (k : ℕ → Knowledge) (session : List Came) → AllDeals P (session_deals k session) → AllCame (λ c. P c.tables) session
all_among P k [] all = tt
all_among P k (came ∷ before) all =
    let parts = subst (AllDeals P) (deals_so k came before) all in (
      last_deal P (ending k came before) (its_request came) (deals_before P (ending k came before ++ its_request came ∷ []) (session_deals k before) parts),
      all_among P k before (deals_behind P (ending k came before ++ its_request came ∷ []) (session_deals k before) parts),
    )

trim : (P : ℕ → Type 0) (k : ℕ → Knowledge) (session : List Came) (later deals : List Deal) → IsSession k session → session_deals k session ≡ later ++ deals → AllDeals P deals → Trimmed P k deals
trim P k [] later deals so is all = record { requests = []; session = tt; later = later; left = is; among = tt }
trim P k (came ∷ before) later deals so is all =
    elim (cut later deals (ending k came before ++ its_request came ∷ []) (session_deals k before) (sym is ∙ deals_so k came before)) [
      | inl less ↦ trim P k before less.mid deals so.1 less.behind all
      | inr here ↦ (
          let parts = subst (AllDeals P) here.behind all in
          record {
            requests = came ∷ before;
            session = so;
            later = later;
            left = is;
            among = (
              last_behind P (ending k came before) (its_request came) later here.first here.mid here.is (deals_before P (here.first ∷ here.mid) (session_deals k before) parts),
              all_among P k before (deals_behind P (here.first ∷ here.mid) (session_deals k before) parts),
            );
          })
    ]

-- the requests of a front came while such tables were in force
abbrev Low : ℕ → ℕ → Type 0
Low most n = n ≤ most

step_low : (name : List ℕ) (step : Step) (number : ℕ) → AllDeals (Low number) (deal_in number name step)
step_low name (AsGot session bytes words) number = by_name (bytes_eq session name)
  where
    by_name : (b : Bool) → AllDeals (Low number) (if b then requested number bytes words ∷ [] else [])
    by_name true = (omega arith, tt)
    by_name false = tt
step_low name (AsGave message session bytes) number = by_name (bytes_eq session name)
  where
    by_name : (b : Bool) → AllDeals (Low number) (if b then replied bytes ∷ [] else [])
    by_name true = (tt, tt)
    by_name false = tt
step_low name (AsEnd session) number = by_name (bytes_eq session name)
  where
    by_name : (b : Bool) → AllDeals (Low number) (if b then ended ∷ [] else [])
    by_name true = (tt, tt)
    by_name false = tt
step_low name step number = tt

one_more : (step : Step) (past : History) → reloads_in past ≤ reloads_in (step ∷ past)
one_more Reload past = omega arith
one_more step past = omega arith

all_low : (name : List ℕ) (past : History) → AllDeals (Low (reloads_in past)) (deals_of name past)
all_low name [] = tt
all_low name (step ∷ past) = weaker_deals (Low (reloads_in past)) (Low (reloads_in (step ∷ past))) (deal_in (reloads_in past) name step ++ deals_of name past)
    (λ n low. omega (arith, low, one_more step past)) (deals_both (Low (reloads_in past)) (deal_in (reloads_in past) name step) (deals_of name past) (step_low name step (reloads_in past)) (all_low name past))

-- by these tables the same is known
taken_same : (most n : ℕ) (tables : List Tables) (d : Tables) → n < most → slice_index_or tables n d ≡ slice_index_or (take most tables) n d
taken_same zero n tables d low = absurd (omega arith)
taken_same (suc most) n [] d low = refl
taken_same (suc most) zero (x ∷ tables) d low = refl
taken_same (suc most) (suc n) (x ∷ tables) d low = taken_same most n tables d (omega arith)

known_same : (z : Setting) (past : History) (n : ℕ) → n ≤ reloads_in past → known_at z n ≡ known_at (setting_at z past) n
known_same z past n low = ap (λ t. knowledge (record { dom = z.dom; keys = t.keys; speaks = t.speaks })) (taken_same (reloads_in past + 1) n z.tables (record { keys = []; speaks = [] }) (omega (arith, low)))

served_front : (z : Setting) (name : List ℕ) (later : List Deal) (past : History) → IsServed (known_at z) (later ++ deals_of name past) → IsServed (known_at (setting_at z past)) (deals_of name past)
served_front z name later past s =
    let t = trim (Low (reloads_in past)) (known_at z) s.requests (s.later ++ later) (deals_of name past) s.session (s.left ∙ sym (append_assoc s.later later (deals_of name past))) (all_low name past) in
    let same = came_more (λ c. Low (reloads_in past) c.tables) (λ c. known_at z c.tables ≡ known_at (setting_at z past) c.tables) t.requests (λ c low. known_same z past c.tables low) t.among in
    record {
      requests = t.requests;
      session = session_same (known_at z) (known_at (setting_at z past)) t.requests same t.session;
      later = t.later;
      left = sym (deals_same (known_at z) (known_at (setting_at z past)) t.requests same) ∙ t.left;
    }

numbered_front : (later past : History) → IsNumbered (later ++ past) → IsNumbered past
numbered_front [] past n = n
numbered_front (step ∷ later) past n = numbered_front later past n.1

neither : (a b : Bool) → a || b ≡ false → (a ≡ false) × (b ≡ false)
neither true b is = absurd cc
neither false b is = (refl, is)

silent_front : (name : List ℕ) (later past : History) → list_any (is_of name) (later ++ past) ≡ false → list_any (is_of name) past ≡ false
silent_front name [] past silent = silent
silent_front name (step ∷ later) past silent = silent_front name later past (neither (is_of name step) (list_any (is_of name) (later ++ past)) silent).1

restarts_front : (spoken : Option Spoken) (name : List ℕ) (later past : History) → EndsByRestarts spoken name (later ++ past) → EndsByRestarts spoken name past
restarts_front None name later past ends = tt
restarts_front (Some spoken) name later past ends = λ front back place started. silent_front name later front (ends (later ++ front) back (ap (λ h. later ++ h) place ∙ sym (append_assoc later front (Restart spoken.node ∷ back))) started)

no_more : (later past : History) → reloads_in past ≤ reloads_in (later ++ past)
no_more [] past = omega arith
no_more (step ∷ later) past = omega (arith, no_more later past, one_more step (later ++ past))

taken_length : (n : ℕ) (tables : List Tables) → n ≤ length tables → length (take n tables) ≡ n
taken_length zero tables most = refl
taken_length (suc n) [] most = absurd (omega arith)
taken_length (suc n) (x ∷ tables) most = ap suc (taken_length n tables (omega arith))

pub legal_front : (later past : History) (z : Setting) → IsLegal (later ++ past) z → IsLegal past (setting_at z past)
legal_front later past z legal = record {
  domain = legal.domain;
  tables = taken_length (reloads_in past + 1) z.tables (omega (arith, legal.tables, no_more later past));
  restarts = λ name. restarts_front (z.spoken name) name later past (legal.restarts name);
  conversations = λ name. conversation_front (z.spoken name) (acts_of name later) (acts_of name past) (subst (IsConversation (z.spoken name)) (acts_append name later past) (legal.conversations name));
  sessions = λ name. served_front z name (deals_end name later past).0 past (subst (IsServed (known_at z)) (deals_end name later past).1 (legal.sessions name));
  numbered = numbered_front later past legal.numbered;
}

-- ---- scripts

pub fronts_are_legal : (script : List ℕ) → FrontsAreLegal script
fronts_are_legal script later past short is = legal_front later past (setting (play script).acts) (subst (λ (h : History). IsLegal h (setting (play script).acts)) (sym is) (scripts_are_legal script short))

pub of_scripts : (P : History → Setting → Atoms → Labelling → Type 0) → OfEveryCleanHistory P → OfEveryCleanScript P
of_scripts P holds = λ script later past atoms l short is clean. holds past (setting_at (setting (play script).acts) past) atoms l (fronts_are_legal script later past short is) clean
