-- A conversation that has come to its end, by what it met, gives up the connection that it keeps.
use Rattle.std.proofs.Common.{◌≡◌, ℕ, List, [], ◌∷◌, ◌++◌, Bool, true, false, cond, eqb, not, ◌&&◌, Option, refl, sym, ap, subst, ◌∙◌}
use Rattle.std.proofs.lemmas.Bool.{eqb-true, false≢true}
use Rattle.talks.specs.declared.answer.RpcAnswer.{RpcAnswer}
use Rattle.talks.specs.Requests.{RpcRequest}
use Rattle.roles.specs.Answers.{IsKey}
use Rattle.talks.specs.Calls as calls
use Rattle.talks.specs.Calls.{Call, Sought}
use Rattle.talks.specs.Standings.{Begun, Phase, Resting, Waiting, Seeking, OnConfirm, OnNeedkey, OnServer, Kept, Standing, finds, need_in, outcome_of, then_stands}
use Rattle.conversations.specs.Shown.{asks_user, is_seeking}
use Rattle.agent_history.specs.Deeds.{Deed, OfTalk, OfPrompts, keys_of}
use Rattle.agent_history.specs.Conversations.{Drop, asking, drop_of, drops, fits, gives_up, keeps, prompting, raised, raising, seeking, seeking_all, sought, sought_once, standing_of, talk, then_sought, then_took}
use Rattle.talks.specs.Lines.{is_end}
use Rattle.agent_talks.specs.Speaks.{carried_in, carried_talk, talked}
use Rattle.side_files.specs.Calls as side
use Rattle.side_files.specs.declared.line.PromptKind.{PromptKind}
use Rattle.conversations.proofs.WaitLaws.{asks_for_key}
use Rattle.agent_talks.specs.Calls.{Calls, ended_if, is_kept}
use Rattle.agent_talks.specs.Keeps.{IsAlive, Keeps, is_over_at}
use Rattle.agent_talks.proofs.CallLemmas.{and_off, and_on, ended_drops, ended_none, ended_others, ended_self, same}
use Rattle.agent_talks.proofs.SeekLemmas.{SameBegun, carried_quiet, needs_quiet, sought_starting, starting_quiet, stored_alike, took_alike}

-- ---- one thing was met

-- whether the connection is given up by it
gives : (done : List Deed) (conv : ℕ) (call : Call) → gives_up (OfTalk conv call) done conv ≡ (keeps done conv && is_over_at (OfTalk conv call ∷ done) conv)
gives done conv call = step (eqb conv conv) (same conv) (keeps done conv) (is_over_at (OfTalk conv call ∷ done) conv)
  where
    step : (b : Bool) → b ≡ true → (k over : Bool) → (k && not (cond b (k && not over) k)) ≡ (k && over)
    step true e true true = refl
    step true e true false = refl
    step true e false over = refl
    step false e k over = absurd (false≢true e)

over_off : (b over : Bool) → over ≡ true → (b && not over) ≡ false
over_off b true e = and_off b
over_off b false e = absurd (false≢true e)

met_one : (done : List Deed) (c : Calls) (conv : ℕ) (call : Call) (over : Bool) → is_over_at (OfTalk conv call ∷ done) conv ≡ over → Keeps done c → Keeps (OfTalk conv call ∷ done) (ended_if over conv (raised done) c)
met_one done c conv call over is k = record {
  kept = λ q. here q (eqb conv q) refl over is;
  drops = sym (ap (λ (b : Bool). cond b (drops done ++ drop_of done conv ∷ []) (drops done)) (gives done conv call ∙ ap (λ (b : Bool). keeps done conv && b) is) ∙ dropped over);
  alive = λ q e. lives q (eqb conv q) refl e;
}
  where
    one : List Deed
    one = OfTalk conv call ∷ done

    at_conv : (over : Bool) → is_over_at one conv ≡ over → is_kept (ended_if over conv (raised done) c).kept conv ≡ (keeps done conv && not (is_over_at one conv))
    at_conv true is = ended_self c conv (raised done) ∙ sym (over_off (keeps done conv) (is_over_at one conv) is)
    at_conv false is = k.kept conv ∙ sym (ap (λ (b : Bool). keeps done conv && not b) is ∙ and_on (keeps done conv))

    elsewhere : (over : Bool) (q : ℕ) → eqb conv q ≡ false → is_kept (ended_if over conv (raised done) c).kept q ≡ keeps done q
    elsewhere true q apart = ended_others c conv (raised done) q apart ∙ k.kept q
    elsewhere false q apart = k.kept q

    here : (q : ℕ) (b : Bool) → eqb conv q ≡ b → (over : Bool) → is_over_at one conv ≡ over → is_kept (ended_if over conv (raised done) c).kept q ≡ cond b (keeps done q && not (is_over_at one q)) (keeps done q)
    here q true e over is = subst (λ (n : ℕ). is_kept (ended_if over conv (raised done) c).kept n ≡ (keeps done n && not (is_over_at one n))) (eqb-true conv q e) (at_conv over is)
    here q false e over is = elsewhere over q e

    dropped : (over : Bool) → cond (keeps done conv && over) (drops done ++ drop_of done conv ∷ []) (drops done) ≡ (ended_if over conv (raised done) c).drops
    dropped true =
        ap (λ (b : Bool). cond b (drops done ++ drop_of done conv ∷ []) (drops done)) (and_on (keeps done conv) ∙ sym (k.kept conv))
        ∙ (ap (λ (ds : List Drop). cond (is_kept c.kept conv) (ds ++ drop_of done conv ∷ []) ds) (sym k.drops)
        ∙ sym (ended_drops c conv (raised done)))
    dropped false = ap (λ (b : Bool). cond b (drops done ++ drop_of done conv ∷ []) (drops done)) (and_off (keeps done conv)) ∙ sym k.drops

    still : (keeping over : Bool) → (keeping && not over) ≡ true → (keeping ≡ true) × (over ≡ false)
    still true false e = (refl, refl)
    still true true e = absurd (false≢true e)
    still false over e = absurd (false≢true e)

    lives : (q : ℕ) (b : Bool) → eqb conv q ≡ b → cond b (keeps done q && not (is_over_at one q)) (keeps done q) ≡ true → IsAlive one q
    lives q true apart e = let parts = still (keeps done q) (is_over_at one q) e in record { stands = (k.alive q parts.0).stands; runs = parts.1 }
    lives q false apart e = let was = k.alive q e in record { stands = was.stands; runs = rw apart was.runs }

pub talk_keeps : (done : List Deed) (c : Calls) (conv : ℕ) (call : Call) → Keeps done c → Keeps (OfTalk conv call ∷ done) (ended_if (is_over_at (OfTalk conv call ∷ done) conv) conv (raised done) c)
talk_keeps done c conv call k = met_one done c conv call (is_over_at (OfTalk conv call ∷ done) conv) refl k

-- one that was at its end keeps none
pub over_keeps : (done : List Deed) (c : Calls) (conv behind : ℕ) → Keeps done c → ended_if (is_over_at done conv) conv behind c ≡ c
over_keeps done c conv behind k = ended_none c conv behind (is_over_at done conv) (λ over. k.kept conv ∙ none (keeps done conv) refl over)
  where
    none : (b : Bool) → keeps done conv ≡ b → is_over_at done conv ≡ true → keeps done conv ≡ false
    none true e over = absurd (false≢true (sym (k.alive conv e).runs ∙ over))
    none false e over = e

-- a request that is written, and an answer that is read, bring it to no end
alike_keeps : (done : List Deed) (c : Calls) (conv : ℕ) (call : Call) → is_over_at (OfTalk conv call ∷ done) conv ≡ is_over_at done conv → Keeps done c → Keeps (OfTalk conv call ∷ done) c
alike_keeps done c conv call e k =
    subst (λ (d : Calls). Keeps (OfTalk conv call ∷ done) d) (ap (λ (b : Bool). ended_if b conv (raised done) c) e ∙ over_keeps done c conv (raised done) k) (talk_keeps done c conv call k)

met_it : (done : List Deed) (conv : ℕ) (call : Call) → standing_of (OfTalk conv call ∷ done) conv ≡ then_stands (standing_of done conv) (standing_of done conv).phase call
met_it done conv call = rw (same conv) refl

pub stored_keeps : (done : List Deed) (c : Calls) (conv : ℕ) (request : RpcRequest) → Keeps done c → Keeps (OfTalk conv (calls.Stored request) ∷ done) c
stored_keeps done c conv request k =
    alike_keeps done c conv (calls.Stored request)
    (ap (λ (s : Standing). is_end (outcome_of s)) (met_it done conv (calls.Stored request)) ∙ stored_alike (standing_of done conv) request) k

took_keeps : (done : List Deed) (c : Calls) (conv : ℕ) → Keeps done c → Keeps (OfTalk conv calls.Took ∷ done) c
took_keeps done c conv k =
    alike_keeps done c conv calls.Took
    (ap (λ (s : Standing). is_end (outcome_of s)) (met_it done conv calls.Took) ∙ took_alike (standing_of done conv)) k

pub then_took_keeps : (done : List Deed) (c : Calls) (conv count : ℕ) (answer : RpcAnswer) → Keeps done c → Keeps (then_took conv count answer done) c
then_took_keeps done c conv count answer k = by_size (fits count answer)
  where
    by_size : (b : Bool) → Keeps (cond b (OfTalk conv calls.Took ∷ done) done) c
    by_size true = took_keeps done c conv k
    by_size false = k

-- ---- a request is carried out, with its searches

-- a conversation that seeks isn't at its end
abbrev IsQuiet : List Deed → ℕ → Type 0
IsQuiet done conv = is_seeking (standing_of done conv).phase ≡ true → is_over_at done conv ≡ false

-- what was kept at first, where it has come to its end since, after so many questions
record Settles (done : List Deed) (c : Calls) (conv behind : ℕ) : Type 0 where
  pub keeps : Keeps done (ended_if (is_over_at done conv) conv behind c)
  pub raised : raised done ≡ behind

-- a question to a user
asked_settles : (done : List Deed) (c : Calls) (conv behind : ℕ) (kind : PromptKind) (call : side.Call) → Settles done c conv behind → Settles (OfPrompts kind call ∷ done) c conv behind
asked_settles done c conv behind kind call s = record { keeps = record { kept = s.keeps.kept; drops = s.keeps.drops; alive = λ q e. let was = s.keeps.alive q e in record { stands = was.stands; runs = was.runs } }; raised = s.raised }

prompting_settles : (done : List Deed) (c : Calls) (conv behind : ℕ) (came : calls.Found) → Settles done c conv behind → Settles (prompting conv came done) c conv behind
prompting_settles done c conv behind (calls.AsksConsent key) s = asked_settles done c conv behind _ _ s
prompting_settles done c conv behind calls.AsksKey s = asked_settles done c conv behind _ _ s
prompting_settles done c conv behind (calls.Chosen key) s = s
prompting_settles done c conv behind calls.Denied s = s
prompting_settles done c conv behind calls.NoneServes s = s
prompting_settles done c conv behind (calls.Offered list) s = s
prompting_settles done c conv behind (calls.Picked place) s = s

once_settles : (done : List Deed) (c : Calls) (conv behind : ℕ) → IsQuiet done conv → Settles done c conv behind → Settles (sought_once conv done) c conv behind
once_settles done c conv behind quiet s = by_phase (standing_of done conv).phase refl
  where
    by_phase : (p : Phase) → (standing_of done conv).phase ≡ p → Settles (seeking conv p done) c conv behind
    by_phase Seeking e =
        let found = finds (standing_of done conv) (asking done) (keys_of done) in
        let came : Call = Sought found in
        let kept : Keeps done c = subst (λ (b : Bool). Keeps done (ended_if b conv behind c)) (quiet (ap is_seeking e)) s.keeps in
        prompting_settles (OfTalk conv came ∷ done) c conv behind found
        (record {
          keeps = subst (λ (n : ℕ). Keeps (OfTalk conv came ∷ done) (ended_if (is_over_at (OfTalk conv came ∷ done) conv) conv n c)) s.raised (talk_keeps done c conv came kept);
          raised = s.raised;
        })
    by_phase Resting e = s
    by_phase (Waiting request) e = s
    by_phase (OnConfirm serial) e = s
    by_phase OnNeedkey e = s
    by_phase OnServer e = s
    by_phase (Kept answer) e = s

-- a question to a user changes no standing
prompting_stands : (done : List Deed) (conv : ℕ) (came : calls.Found) → standing_of (prompting conv came done) conv ≡ standing_of done conv
prompting_stands done conv (calls.AsksConsent key) = refl
prompting_stands done conv calls.AsksKey = refl
prompting_stands done conv (calls.Chosen key) = refl
prompting_stands done conv calls.Denied = refl
prompting_stands done conv calls.NoneServes = refl
prompting_stands done conv (calls.Offered list) = refl
prompting_stands done conv (calls.Picked place) = refl

-- a start stays one behind a search
once_starts : (done : List Deed) (conv : ℕ) → (standing_of done conv).starting ≡ true → (standing_of (sought_once conv done) conv).starting ≡ true
once_starts done conv begins = by_phase (standing_of done conv).phase refl
  where
    by_phase : (p : Phase) → (standing_of done conv).phase ≡ p → (standing_of (seeking conv p done) conv).starting ≡ true
    by_phase Seeking e =
        let came : Call = Sought (finds (standing_of done conv) (asking done) (keys_of done)) in
        ap (λ (s : Standing). s.starting) (prompting_stands (OfTalk conv came ∷ done) conv (finds (standing_of done conv) (asking done) (keys_of done)) ∙ met_it done conv came) ∙ (sought_starting (standing_of done conv) (standing_of done conv).phase (finds (standing_of done conv) (asking done) (keys_of done)) ∙ begins)
    by_phase Resting e = begins
    by_phase (Waiting request) e = begins
    by_phase (OnConfirm serial) e = begins
    by_phase OnNeedkey e = begins
    by_phase OnServer e = begins
    by_phase (Kept answer) e = begins

all_settle : (done : List Deed) (c : Calls) (conv behind : ℕ) (starting : Bool) → (standing_of done conv).starting ≡ starting → IsQuiet done conv → Settles done c conv behind → Settles (seeking_all starting conv done) c conv behind
all_settle done c conv behind false is quiet s = once_settles done c conv behind quiet s
all_settle done c conv behind true is quiet s =
    let one : List Deed = sought_once conv done in
    let two : List Deed = sought_once conv one in
    let first = once_starts done conv is in
    let second = once_starts one conv first in
    once_settles two c conv behind (starting_quiet (standing_of two conv) second)
    (once_settles one c conv behind (starting_quiet (standing_of one conv) first) (once_settles done c conv behind quiet s))

raising_keeps : (done : List Deed) (c : Calls) (conv behind : ℕ) (p : Phase) → Keeps done (ended_if (is_over_at done conv) conv behind c) → Keeps (raising conv p done) (ended_if (is_over_at (raising conv p done) conv) conv behind c)
raising_keeps done c conv behind OnServer k = record { kept = k.kept; drops = k.drops; alive = λ q e. let was = k.alive q e in record { stands = was.stands; runs = was.runs } }
raising_keeps done c conv behind Resting k = k
raising_keeps done c conv behind (Waiting request) k = k
raising_keeps done c conv behind Seeking k = k
raising_keeps done c conv behind (OnConfirm serial) k = k
raising_keeps done c conv behind OnNeedkey k = k
raising_keeps done c conv behind (Kept answer) k = k

met_keeps : (done : List Deed) (c : Calls) (conv : ℕ) (call : Call) → IsQuiet (OfTalk conv call ∷ done) conv → Keeps done c → Keeps (talked conv call done) (ended_if (is_over_at (talked conv call done) conv) conv (raised done) c)
met_keeps done c conv call quiet k =
    let one : List Deed = OfTalk conv call ∷ done in
    let s = all_settle one c conv (raised done) (standing_of one conv).starting refl quiet (record { keeps = talk_keeps done c conv call k; raised = refl }) in
    raising_keeps (then_sought conv one) c conv (raised done) (standing_of (then_sought conv one) conv).phase s.keeps

-- its user answered
pub answered_keeps : (done : List Deed) (c : Calls) (conv : ℕ) (call : Call) → SameBegun call → asks_user (standing_of done conv).phase ≡ true → Keeps done c → Keeps (talked conv call done) (ended_if (is_over_at (talked conv call done) conv) conv (raised done) c)
answered_keeps done c conv call same_begun asks k =
    let now : (standing_of (OfTalk conv call ∷ done) conv).begun ≡ (standing_of done conv).begun = ap (λ (s : Standing). s.begun) (met_it done conv call) ∙ same_begun (standing_of done conv) (standing_of done conv).phase in
    met_keeps done c conv call
    (λ seeks. needs_quiet (standing_of (OfTalk conv call ∷ done) conv) (subst (λ (b : Option Begun). IsKey (need_in b)) (sym now) (asks_for_key (talk done conv) asks))) k

pub carried_keeps : (done : List Deed) (c : Calls) (conv : ℕ) (word : List ℕ) → Keeps done c → Keeps (carried_talk conv word done) (ended_if (is_over_at (carried_talk conv word done) conv) conv (raised done) c)
carried_keeps done c conv word k = by_phase (standing_of done conv).phase refl
  where
    none : Keeps done (ended_if (is_over_at done conv) conv (raised done) c)
    none = subst (λ (d : Calls). Keeps done d) (sym (over_keeps done c conv (raised done) k)) k

    by_phase : (p : Phase) → (standing_of done conv).phase ≡ p → Keeps (carried_in conv word p done) (ended_if (is_over_at (carried_in conv word p done) conv) conv (raised done) c)
    by_phase (Waiting request) e =
        let stands : standing_of (OfTalk conv (calls.CarriedOut word) ∷ done) conv ≡ then_stands (standing_of done conv) (Waiting request) (calls.CarriedOut word) =
        met_it done conv (calls.CarriedOut word) ∙ ap (λ (p : Phase). then_stands (standing_of done conv) p (calls.CarriedOut word)) e in
        met_keeps done c conv (calls.CarriedOut word)
        (subst (λ (s : Standing). is_seeking s.phase ≡ true → is_end (outcome_of s) ≡ false) (sym stands) (carried_quiet (standing_of done conv) word request)) k
    by_phase Resting e = none
    by_phase Seeking e = none
    by_phase (OnConfirm serial) e = none
    by_phase OnNeedkey e = none
    by_phase OnServer e = none
    by_phase (Kept answer) e = none
