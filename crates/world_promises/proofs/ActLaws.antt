-- Each act does to the conversations of its node what a turn does, and keeps what is known of all of them.
use Rattle.std.proofs.Common.{◌≡◌, ℕ, List, [], ◌∷◌, Bool, true, false, cond, eqb, not, Option, Some, None, refl, sym, ap, subst, ◌∙◌}
use Rattle.std.specs.Prelude.{is_some}
use Rattle.std.specs.Str.{bytes_eq}
use Rattle.std.proofs.lemmas.Bool.{or_parts}
use Rattle.talks.specs.Standings.{Begun}
use Rattle.agent_history.specs.Conversations.{conv_of}
use Rattle.agent_history.specs.Histories.{deeds}
use Rattle.agent_laws.proofs.GrowLaws.{not_false}
use Rattle.world_history.specs.Acts.{Act, Talk, Domain, KeyLine, SpeakLine, Reloaded, Made, Restarted, Told, Opened, Started, Got, Given, Answered, Unanswered, Asked, Closed, agent_of, talk_of}
use Rattle.world_history.specs.Scripts.{call_now, call_or, is_unfit}
use Rattle.world_history.specs.Talking.{Asks, gets, gives, starts}
use Rattle.world_history.specs.Turns.{Turn, after, asks, closes, hears, misses}
use Rattle.world_history.specs.Worlds.{done_by, history, history_by, on_talk, outstanding}
use Rattle.world_promises.specs.Begun.{BegunWith}
use Rattle.world_promises.specs.Agents.{AgentDoes, AgentsDo, begun_in}
use Rattle.world_promises.specs.Conditions.{AreDone}
use Rattle.world_promises.specs.Settings.{Place}
use Rattle.world_promises.proofs.WordLaws.{Word, words_so}
use Rattle.driven_agents.specs.Idle.{IsIdle, Runs}
use Rattle.world_promises.specs.Requests.{IsWorded}
use Rattle.world_promises.specs.Worlds.{AllRun}
use Rattle.world_promises.proofs.KnownLaws.{IsSame, Known, does_nothing, not_both, same_known}
use Rattle.world_promises.proofs.MadeLaws.{made_known, restarted_known, told_does, told_known}
use Rattle.world_promises.proofs.OpenedLaws.{opened_does, opened_known}
use Rattle.world_promises.proofs.RunLemmas.{itself, ran_before, talk_node}
use Rattle.world_promises.proofs.StepLaws.{IsOpen, OnTalk, closed_known, is_open}
use Rattle.world_promises.proofs.StepLaws as step
use Rattle.world_promises.proofs.TalkLemmas.{closed_talk}
use Rattle.world_promises.proofs.TurnFacts.{Driven, TurnSo, absence_so, answer_so, close_so, request_so}

-- what is known behind an act, and what the act does
pub record Goes (before : List Act) (act : Act) : Type 0 where
  pub known : Known (act ∷ before)
  pub does : AgentDoes before act

-- ---- an act of a conversation

-- where it is open, its turn is such
abbrev IsDriven : List Act → Act → List ℕ → (ℕ → Turn) → (ℕ → ℕ → Bool) → (ℕ → ℕ → Bool) → Type 0
IsDriven before act conv turn ends gone = (t : Talk) (place : Place) → IsOpen before conv t place → IsIdle (history before place.agent) → conv_of (deeds (history before place.agent)) 0 t.fid ≡ Some place.number → Runs (after (turn t.fid) (history before place.agent))
    → TurnSo conv (turn t.fid) t.fid place.number (ends place.number) (gone t.fid) (history before place.agent)

runs_then : (before : List Act) (act : Act) (conv : List ℕ) (turn : ℕ → Turn) (ends gone : ℕ → ℕ → Bool) → OnTalk before act conv turn ends gone → AllRun (act ∷ before) → (t : Talk) → talk_of before conv ≡ Some t → Runs (after (turn t.fid) (history before (agent_of before t.node)))
runs_then before act conv turn ends gone on run t is =
    let agent = agent_of before t.node in
    let h = history before agent in
    subst Runs (on.goes agent ∙ (ap (λ o. history_by (on_talk before o turn) agent h) is ∙ ap (λ b. cond b (after (turn t.fid) h) h) (itself agent))) (run agent)

by_talk : (before : List Act) (act : Act) (conv : List ℕ) (turn : ℕ → Turn) (ends gone : ℕ → ℕ → Bool) → OnTalk before act conv turn ends gone → AreDone before → AllRun (act ∷ before) → Known before → IsDriven before act conv turn ends gone → (o : Option Talk) → talk_of before conv ≡ o → Goes before act
by_talk before act conv turn ends gone on done run k driven None is = record {
  known = closed_known before act conv turn ends gone on k is;
  does = does_nothing before act k (on.does ∙ ap (λ o. on_talk before o turn) is);
}
by_talk before act conv turn ends gone on done run k driven (Some t) is =
    let o = is_open before done conv t is in
    let s = k.seated.seats conv t o.0 is o.1.at in
    let made = talk_node before done conv t is in
    let at = sym o.1.agent in
    let so = driven t o.0 o.1 (subst (λ n. IsIdle (history before n)) at (k.seated.idle t.node made)) s.seat (subst (λ n. Runs (after (turn t.fid) (history before n))) at (runs_then before act conv turn ends gone on run t is)) in
    record {
      known = step.opened_known before act conv turn ends gone on k t o.0 o.1 so;
      does = step.opened_does before act conv turn ends gone on k t o.0 o.1 so;
    }

goes_on : (before : List Act) (act : Act) (conv : List ℕ) (turn : ℕ → Turn) (ends gone : ℕ → ℕ → Bool) → OnTalk before act conv turn ends gone → AreDone before → AllRun (act ∷ before) → Known before → IsDriven before act conv turn ends gone → Goes before act
goes_on before act conv turn ends gone on done run k driven = by_talk before act conv turn ends gone on done run k driven (talk_of before conv) refl

-- ---- requests

abbrev no_fid : ℕ → ℕ → Bool
no_fid fid other = false

abbrev its_own : ℕ → ℕ → Bool
its_own number other = eqb other number

worded : (begun : Option Begun) → BegunWith Word begun → BegunWith IsWorded begun
worded None so = tt
worded (Some b) so = so.whole

asked_driven : Driven → (before : List Act) (act : Act) (conv : List ℕ) (what : Asks) → AreDone before → AgentsDo before → IsDriven before act conv (λ fid. asks conv fid what) no_fid no_fid
asked_driven d before act conv what done does t place o idle seat runs =
    let begun = worded (begun_in (history before place.agent) place.number) (words_so before done does conv place o.at) in
    request_so d conv what t.fid place.number (history before place.agent) begun idle seat runs

-- ---- answers

outstanding_is : (o : Option ℕ) → is_some o ≡ true → o ≡ Some (call_or o)
outstanding_is None is = absurd cc
outstanding_is (Some call) is = refl

asks_now : (before : List Act) (conv : List ℕ) (call : ℕ) → call ≡ call_now before conv → is_some (outstanding before conv) ≡ true → outstanding before conv ≡ Some call
asks_now before conv call named is = outstanding_is (outstanding before conv) is ∙ ap (λ n. Some n) (sym named)

answer_fits : (before : List Act) (conv bytes : List ℕ) (call : ℕ) → is_unfit before (Answered conv bytes call) ≡ false → is_some (outstanding before conv) ≡ true
unfolding is_unfit
answer_fits before conv bytes call fits = not_false (is_some (outstanding before conv)) (or_parts (not (is_some (outstanding before conv))) _ fits).0

absence_fits : (before : List Act) (conv : List ℕ) (call : ℕ) → is_unfit before (Unanswered conv call) ≡ false → is_some (outstanding before conv) ≡ true
unfolding is_unfit
absence_fits before conv call fits = not_false (is_some (outstanding before conv)) fits

answered_driven : Driven → (before : List Act) (conv bytes : List ℕ) (call : ℕ) → AreDone (Answered conv bytes call ∷ before) → Known before → IsDriven before (Answered conv bytes call) conv (λ fid. hears conv fid call bytes) its_own no_fid
answered_driven d before conv bytes call done k t place o idle seat runs =
    answer_so d conv bytes call t.fid place.number (history before place.agent) idle seat ((k.seated.seats conv t place o.is o.at).asks call (asks_now before conv call done.0.named (answer_fits before conv bytes call done.0.fits))) runs

absent_driven : Driven → (before : List Act) (conv : List ℕ) (call : ℕ) → AreDone (Unanswered conv call ∷ before) → Known before → IsDriven before (Unanswered conv call) conv (λ fid. misses conv fid call) its_own no_fid
absent_driven d before conv call done k t place o idle seat runs =
    absence_so d conv call t.fid place.number (history before place.agent) idle seat ((k.seated.seats conv t place o.is o.at).asks call (asks_now before conv call done.0.named (absence_fits before conv call done.0.fits))) runs

-- ---- all acts

same_goes : (before : List Act) (act : Act) → IsSame before act → done_by before act ≡ None → Known before → Goes before act
same_goes before act same none k = record { known = same_known before act same k; does = does_nothing before act k none }

act_goes : Driven → (before : List Act) (act : Act) → AreDone (act ∷ before) → AllRun (act ∷ before) → Known before → AgentsDo before → Goes before act
act_goes d before (Domain dom) done run k does = same_goes before (Domain dom) (record { goes = λ n. refl; calls = λ n. refl; stands = λ n. refl; nodes = λ n. refl; talks = λ n t is. is; agents = λ n. refl }) refl k
act_goes d before (KeyLine tuple) done run k does = same_goes before (KeyLine tuple) (record { goes = λ n. refl; calls = λ n. refl; stands = λ n. refl; nodes = λ n. refl; talks = λ n t is. is; agents = λ n. refl }) refl k
act_goes d before (SpeakLine tuple) done run k does = same_goes before (SpeakLine tuple) (record { goes = λ n. refl; calls = λ n. refl; stands = λ n. refl; nodes = λ n. refl; talks = λ n t is. is; agents = λ n. refl }) refl k
act_goes d before (Asked session request words) done run k does = same_goes before (Asked session request words) (record { goes = λ n. refl; calls = λ n. refl; stands = λ n. refl; nodes = λ n. refl; talks = λ n t is. is; agents = λ n. refl }) refl k
act_goes d before Reloaded done run k does = same_goes before Reloaded (record { goes = λ n. refl; calls = λ n. refl; stands = λ n. refl; nodes = λ n. refl; talks = λ n t is. is; agents = λ n. refl }) refl k
act_goes d before (Restarted name) done run k does = record { known = restarted_known before name done run k; does = does_nothing before (Restarted name) k refl }
act_goes d before (Made name) done run k does = record { known = made_known before name done run k; does = does_nothing before (Made name) k refl }
act_goes d before (Told at line) done run k does = record { known = told_known before at line done run k; does = told_does before at line k }
act_goes d before (Opened node conv) done run k does = record { known = opened_known before node conv done run k; does = opened_does before node conv k }
act_goes d before (Started conv word tuple) done run k does =
    goes_on before (Started conv word tuple) conv (λ fid. asks conv fid (starts word tuple)) no_fid no_fid
    (record { does = refl; goes = λ n. refl; calls = λ n. refl; stands = λ n. refl; nodes = λ n. refl; agents = λ n. refl; of_conv = λ f. refl; talks = λ n t is. is; stays = λ t is. refl; ends_own = λ n m apart. refl; gone_own = λ f g apart. refl })
    done.1 run k (asked_driven d before (Started conv word tuple) conv (starts word tuple) done.1 does)
act_goes d before (Got conv) done run k does =
    goes_on before (Got conv) conv (λ fid. asks conv fid gets) no_fid no_fid
    (record { does = refl; goes = λ n. refl; calls = λ n. refl; stands = λ n. refl; nodes = λ n. refl; agents = λ n. refl; of_conv = λ f. refl; talks = λ n t is. is; stays = λ t is. refl; ends_own = λ n m apart. refl; gone_own = λ f g apart. refl })
    done.1 run k (asked_driven d before (Got conv) conv gets done.1 does)
act_goes d before (Given conv bytes) done run k does =
    goes_on before (Given conv bytes) conv (λ fid. asks conv fid (gives bytes)) no_fid no_fid
    (record { does = refl; goes = λ n. refl; calls = λ n. refl; stands = λ n. refl; nodes = λ n. refl; agents = λ n. refl; of_conv = λ f. refl; talks = λ n t is. is; stays = λ t is. refl; ends_own = λ n m apart. refl; gone_own = λ f g apart. refl })
    done.1 run k (asked_driven d before (Given conv bytes) conv (gives bytes) done.1 does)
act_goes d before (Answered conv bytes call) done run k does =
    goes_on before (Answered conv bytes call) conv (λ fid. hears conv fid call bytes) its_own no_fid
    (record { does = refl; goes = λ n. refl; calls = λ n. refl; stands = λ n. refl; nodes = λ n. refl; agents = λ n. refl; of_conv = λ f. refl; talks = λ n t is. is; stays = λ t is. refl; ends_own = λ n m apart. apart; gone_own = λ f g apart. refl })
    done.1 run k (answered_driven d before conv bytes call done k)
act_goes d before (Unanswered conv call) done run k does =
    goes_on before (Unanswered conv call) conv (λ fid. misses conv fid call) its_own no_fid
    (record { does = refl; goes = λ n. refl; calls = λ n. refl; stands = λ n. refl; nodes = λ n. refl; agents = λ n. refl; of_conv = λ f. refl; talks = λ n t is. is; stays = λ t is. refl; ends_own = λ n m apart. apart; gone_own = λ f g apart. refl })
    done.1 run k (absent_driven d before conv call done k)
act_goes d before (Closed conv) done run k does =
    goes_on before (Closed conv) conv (λ fid. closes conv fid) its_own its_own
    (record {
      does = refl;
      goes = λ n. refl;
      calls = λ n. refl;
      stands = λ n. refl;
      nodes = λ n. refl;
      agents = λ n. refl;
      of_conv = λ f. refl;
      talks = λ n t is. (closed_talk before conv n t is).0;
      stays = λ t is. absurd (not_both (bytes_eq conv conv) (itself conv) (closed_talk before conv conv t is).1);
      ends_own = λ n m apart. apart;
      gone_own = λ f g apart. apart;
    })
    done.1 run k (λ t place o idle seat runs. close_so conv t.fid place.number (history before place.agent) idle seat runs)

none_known : Known []
none_known = record {
  seated = record { idle = λ node is. absurd cc; seats = λ conv t place is at. absurd cc };
  below = λ conv place at. absurd cc;
  apart = λ one other p q at there names same. absurd cc;
  new = λ node n low. refl;
  silent = λ conv none. refl;
}

-- ---- all of them

pub record AllGo (acts : List Act) : Type 0 where
  pub known : Known acts
  pub all : AgentsDo acts

pub all_go : Driven → (acts : List Act) → AreDone acts → AllRun acts → AllGo acts
all_go d [] done run = record { known = none_known; all = tt }
all_go d (act ∷ before) done run =
    let prior = all_go d before done.1 (ran_before before act done run) in
    let now = act_goes d before act done run prior.known prior.all in
    record { known = now.known; all = (now.does, prior.all) }
