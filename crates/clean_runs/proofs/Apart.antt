-- Two acceptances by one ticket, under one grant or with one match stand at one place of a history.
use Rattle.std.proofs.Common.{◌≡◌, ℕ, List, [], ◌∷◌, ◌++◌, append_assoc, length, length-append, Contains, Some, None, Bool, if◌then◌else◌, inl, inr, refl, sym, ap, subst, ◌∙◌, arith}
use Rattle.std.proofs.lemmas.Bool.{cases_Bool}
use Rattle.std.specs.Str.{bytes_eq}
use Rattle.symbolic_runs.specs.Trees.{long_key, password, digest, seal, ticket_key}
use Rattle.wire_histories.specs.declared.step.Step.{Step}
use Rattle.wire_histories.specs.declared.step.Step.TheVariants.{Out, Accept}
use Rattle.symbolic_runs.specs.Forms.{for_client, ticket, tickets, client_message, mail_challenge}
use Rattle.symbolic_runs.specs.Moves.{accepts, client, hears, mail_client}
use Rattle.symbolic_runs.specs.Runs.{Event, Run, moves}
use Rattle.symbolic_runs.specs.Sessions.{keys, key_and_password}
use Rattle.symbolic_runs.specs.Agreement.{Matches as MatchesInRun, client_matches as by_client, mail_client_matches as by_mail_client}
use Rattle.symbolic_runs.proofs.Apart.{a_ticket, by_one_ticket, matched_by_one, under_one_grant}
use Rattle.wire_histories.specs.Histories.{History, reloads_in}
use Rattle.clean_runs.specs.Labels.{started_as, starts_in}
use Rattle.clean_runs.specs.KeyNames.{speakers}
use Rattle.clean_runs.specs.Runs.{events_of, number_of}
use Rattle.clean_runs.proofs.Bridge.{Case, SessionsGo, orderly, run, setting}
use Rattle.clean_runs.proofs.Numbers.{IsOrderly, same_name}
use Rattle.clean_runs.proofs.Steps.{Kind, InOrder, begins, deals, does, kind, nothing}
use Rattle.clean_runs.specs.Agreement.{Acceptance, IsMade, Matches, client_matches, granted, mail_client_matches, user_of}
use Rattle.clean_runs.specs.AgreementStatements.{EachByATicket, OneByAMatch, OneByATicket, OneUnderAGrant}
use Rattle.clean_runs.proofs.Gifts.{given_out}
use Rattle.clean_runs.proofs.Grants.{grants_are, speakers_are, vouch_stands}
use Rattle.clean_runs.proofs.Places.{fronted, moves_are, plays_in}
use Rattle.clean_runs.proofs.Servers.{behind, in_run, is_run, number_at, placed_at, shows_in, shows_out, true_in, under_in, user_at, user_is}

-- ---- one place of the run is one of the history

longer : (front : Run) (e : Event) (gone past : Run) → gone ≡ front ++ e ∷ past → gone ≡ past → ⊥
longer front e gone past is same =
    let size = ap length (sym same ∙ is) in
    let parts = length-append front (e ∷ past) in
    omega (arith, size, parts)

one_past : (c : Case) (later later' past past' : History) (step step' : Step) (e e' : Event) → later ++ step ∷ past ≡ later' ++ step' ∷ past' → events_of (setting c) c.l past step ≡ e ∷ [] → events_of (setting c) c.l past' step' ≡ e' ∷ [] → run c past ≡ run c past' → past ≡ past'
one_past c [] [] past past' step step' e e' is events events' same = cc
one_past c [] (x ∷ later') past past' step step' e e' is events events' same =
    let more : past ≡ later' ++ step' ∷ past' = cc in
    let front = fronted c later' (step' ∷ past') in
    absurd (longer front.0 e' (run c past) (run c past') (ap (run c) more ∙ front.1 ∙ ap (λ es. front.0 ++ (es ++ run c past')) events') same)
one_past c (x ∷ later) [] past past' step step' e e' is events events' same =
    let more : past' ≡ later ++ step ∷ past = cc in
    let front = fronted c later (step ∷ past) in
    absurd (longer front.0 e (run c past') (run c past) (ap (run c) more ∙ front.1 ∙ ap (λ es. front.0 ++ (es ++ run c past)) events) (sym same))
one_past c (x ∷ later) (y ∷ later') past past' step step' e e' is events events' same = one_past c later later' past past' step step' e e' (let rest : later ++ step ∷ past ≡ later' ++ step' ∷ past' = cc in rest) events events' same

pub one_acceptance : (c : Case) (a b : Acceptance c.history) → run c a.past ≡ run c b.past → a.past ≡ b.past
one_acceptance c a b same = one_past c a.happens.later b.happens.later a.past b.past (Accept a.conv a.cuid a.suid) (Accept b.conv b.cuid b.suid) (moves (number_at c a) (accepts (user_at c a))) (moves (number_at c b) (accepts (user_at c b))) (sym a.happens.place ∙ b.happens.place) refl refl same

-- ---- tickets and grants

pub each_by_a_ticket : (c : Case) → SessionsGo c → EachByATicket c.history c.l
each_by_a_ticket c sessions a =
    let t = a_ticket (setting c) (run c c.history) (is_run c sessions) (in_run c a) in
    (t.0, shows_out c a t.0 t.1)

pub one_by_a_ticket : (c : Case) → SessionsGo c → OneByATicket c.history c.l
one_by_a_ticket c sessions a b t u shows shows' same = one_acceptance c a b (by_one_ticket (setting c) (run c c.history) (is_run c sessions) (in_run c a) (in_run c b) t u (shows_in c a t shows) (shows_in c b u shows') same)

pub one_under_a_grant : (c : Case) → SessionsGo c → OneUnderAGrant c.history c.z c.l
one_under_a_grant c sessions a b p q number u v = one_acceptance c a b (under_one_grant (setting c) (run c c.history) (is_run c sessions) (in_run c a) (in_run c b) (true_in c a p) (true_in c b q) number (under_in c a number u) (under_in c b number v))

-- ---- matches

-- the number of a conversation that has started stays
stays : (step : Step) (past : History) (conv : List ℕ) (number : ℕ) → Kind step → InOrder past step → started_as conv past ≡ Some number → started_as conv (step ∷ past) ≡ Some number
stays step past conv number (begins other p r w) fresh is = elim (cases_Bool (bytes_eq other conv)) [
  | inl same ↦ absurd (let both : Some number ≡ None = sym is ∙ ap (λ n. started_as n past) (sym (same_name other conv same)) ∙ fresh in cc)
  | inr differs ↦ ap (λ (b : Bool). if b then Some (starts_in past) else started_as conv past) differs ∙ is
]
stays step past conv number (does other act d) fresh is = d.none.started conv past ∙ is
stays step past conv number (deals session deal d) fresh is = d.none.started conv past ∙ is
stays step past conv number (nothing d) fresh is = d.none.started conv past ∙ is

started_later : (later past : History) (conv : List ℕ) (number : ℕ) → IsOrderly (later ++ past) → started_as conv past ≡ Some number → started_as conv (later ++ past) ≡ Some number
started_later [] past conv number order is = is
started_later (step ∷ later) past conv number order is = stays step (later ++ past) conv number (kind step) order.0 (started_later later past conv number order.1 is)

-- so it has one
one_number : (c : Case) (conv : List ℕ) (past later past' later' : History) → c.history ≡ later ++ past → c.history ≡ later' ++ past' → started_as conv past ≡ Some (number_of conv past) → started_as conv past' ≡ Some (number_of conv past') → number_of conv past' ≡ number_of conv past
one_number c conv past later past' later' place place' is is' =
    let order = orderly c c.history [] refl in
    let one = ap (started_as conv) place ∙ started_later later past conv (number_of conv past) (subst IsOrderly place order) is in
    let other = ap (started_as conv) place' ∙ started_later later' past' conv (number_of conv past') (subst IsOrderly place' order) is' in
    let both : Some (number_of conv past') ≡ Some (number_of conv past) = sym other ∙ one in
    cc

-- a match of the history is one of the run
pub record MatchedIn (c : Case) (past : History) (number : ℕ) (user conv : List ℕ) : Type 0 where
  pub gave : History
  pub later : History
  pub place : c.history ≡ later ++ gave
  pub started : started_as conv gave ≡ Some (number_of conv gave)
  pub matches : MatchesInRun (setting c) (run c past) number user (number_of conv gave)

match_in : (c : Case) → SessionsGo c → (past later : History) (place : c.history ≡ later ++ past) (number : ℕ) (made : IsMade past c.z c.l number) (user conv : List ℕ) → Matches c.history past c.z c.l made user conv → MatchedIn c past number user conv
match_in c sessions past later place number made user conv (client_matches {sealer} {message} {b} {handed} {cuid} {before} {gave} role used speaks opened happens labels) =
    let behind_it = (later ++ happens.later) ++ Out message conv b ∷ [] in
    let here : c.history ≡ behind_it ++ gave = place ∙ ap (λ xs. later ++ xs) happens.place ∙ sym (append_assoc later happens.later (Out message conv b ∷ gave)) ∙ sym (append_assoc (later ++ happens.later) (Out message conv b ∷ []) gave) in
    let p = plays_in c conv client gave behind_it here role in
    let k = number_of conv gave in
    let grant_is = grants_are c past later place number made in
    record {
      gave = gave;
      later = behind_it;
      place = here;
      started = p.started;
      matches = by_client
          p.role_is
          (ap (λ x. x.used) grant_is ∙ used ∙ ap (λ h. keys sealer (Some h)) (sym p.holder_is))
          (subst (λ names. Contains names ((setting c).holder k)) (sym (ap (λ x. x.speakers) grant_is ∙ speakers_are c.z (reloads_in made.asked) made.read (c.l.label (length made.asked)))) (subst (λ h. Contains (speakers c.z (reloads_in made.asked) made.read.uid) h) (sym p.holder_is) speaks))
          (moves_are c conv client gave behind_it here p ∙ opened
          ∙ ap (λ h. hears (tickets (seal (long_key h) (ticket for_client (granted made).chal cuid user (ticket_key number))) handed) ∷ before) (sym p.holder_is)
          ∙ ap (λ x. hears (tickets (seal (long_key ((setting c).holder k)) (ticket for_client x.chal cuid user (ticket_key number))) handed) ∷ before) (sym grant_is))
          (given_out c past later gave conv b message (client_message handed (ticket_key number) ((setting c).grants number).chal) place happens (λ x e. cc) (labels ∙ ap (λ x. client_message handed (ticket_key number) x.chal ∷ []) (sym grant_is)));
    }
match_in c sessions past later place number made user conv (mail_client_matches {sealer} {message} {first} {b} {kind} {gave} role used holds mail happens labels) =
    let behind_it = (later ++ happens.later) ++ Out message conv b ∷ [] in
    let here : c.history ≡ behind_it ++ gave = place ∙ ap (λ xs. later ++ xs) happens.place ∙ sym (append_assoc later happens.later (Out message conv b ∷ gave)) ∙ sym (append_assoc (later ++ happens.later) (Out message conv b ∷ []) gave) in
    let p = plays_in c conv (mail_client kind) gave behind_it here role in
    let grant_is = grants_are c past later place number made in
    let v = vouch_stands c past later place number made sealer (l_holder c conv) used kind first holds mail in
    record {
      gave = gave;
      later = behind_it;
      place = here;
      started = p.started;
      matches = by_mail_client
          p.role_is
          (ap (λ x. x.used) grant_is ∙ used ∙ ap (key_and_password sealer) (sym p.holder_is))
          v.1
          (given_out c past later gave conv b message (digest kind (password ((setting c).holder (number_of conv gave))) (mail_challenge c.z.dom first)) place happens (λ x e. cc) (labels ∙ ap (λ h. digest kind (password h) (mail_challenge c.z.dom first) ∷ []) (sym p.holder_is)));
    }
  where
    l_holder : (c : Case) → List ℕ → List ℕ
    l_holder c conv = c.l.holder conv

pub one_by_a_match : (c : Case) → SessionsGo c → OneByAMatch c.history c.z c.l
one_by_a_match c sessions a b p q number other g h conv m n =
    let one = match_in c sessions a.past (behind c a) (placed_at c a) number g.made (user_of c.l a) conv m in
    let two = match_in c sessions b.past (behind c b) (placed_at c b) other h.made (user_of c.l b) conv n in
    let same : number_of conv two.gave ≡ number_of conv one.gave = one_number c conv one.gave one.later two.gave two.later one.place two.place one.started two.started in
    one_acceptance c a b (matched_by_one (setting c) (run c c.history) (is_run c sessions) (in_run c a) (in_run c b) (true_in c a p) (true_in c b q) number other (number_of conv one.gave) (under_in c a number g.under) (under_in c b other h.under)
    (subst (λ u. MatchesInRun (setting c) (run c a.past) number u (number_of conv one.gave)) (sym (user_is c a)) one.matches)
    (subst (λ k. MatchesInRun (setting c) (run c b.past) other (user_at c b) k) same (subst (λ u. MatchesInRun (setting c) (run c b.past) other u (number_of conv two.gave)) (sym (user_is c b)) two.matches)))
