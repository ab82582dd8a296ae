-- By an act but a restart and a reading of the tables no step of either kind is recorded. So the tables were read again
-- as often as acts had it done.
use Rattle.std.proofs.Common.{◌≡◌, ℕ, ◌+◌, List, [], ◌∷◌, ◌++◌, length, Bool, true, false, Option, Some, None, refl, ap, reverse, ◌∙◌}
use Rattle.std.specs.Prelude.{if◌then◌else◌}
use Rattle.std.proofs.lemmas.List.{reverse-append}
use Rattle.wire_histories.specs.declared.step.Step.{Step}
use Rattle.wire_histories.specs.declared.step.Step.TheVariants as s
use Rattle.wire_histories.specs.Histories.{reloads_in}
use Rattle.auth_server.specs.Requests.{is_served, kind_of}
use Rattle.auth_server.specs.Answers.{Posed, answer_in, is_over_in}
use Rattle.world_history.specs.Acts.{Act, Reloaded, Restarted, Asked}
use Rattle.world_history.specs.Worlds.{Done, done_by, history, messages_in, put_to, requests, session_steps, steps, steps_by, steps_to}
use Rattle.world_promises.specs.Agents.{conv_in}
use Rattle.world_promises.specs.LegalityStatements.{record_of}
use Rattle.world_promises.proofs.StepLemmas.{AllStay, each_stays, no_reload, stay_reversed, turn_each}

one_end : (session : List ℕ) (over : Bool) → AllStay (if over then s.AsEnd session ∷ [] else [])
one_end session true = (refl, tt)
one_end session false = tt

then_ends : (number : ℕ) (session answer : List ℕ) (served over : Bool) → AllStay (if served then s.AsGave number session answer ∷ (if over then s.AsEnd session ∷ [] else []) else s.AsEnd session ∷ [])
then_ends number session answer true over = (refl, one_end session over)
then_ends number session answer false over = (refl, tt)

pub session_stays : (number : ℕ) (session : List ℕ) (before : List Posed) (p : Posed) → AllStay (session_steps number session before p)
unfolding session_steps
session_stays number session before p = (refl, then_ends number session (answer_in before p) (is_served (kind_of p.asked.request)) (is_over_in (p ∷ before)))

pub done_stays : (number : ℕ) (before : List Act) (done : Option Done) → AllStay (steps_to number before done)
done_stays number before None = tt
done_stays number before (Some done) = each_stays (conv_in done.turn) _ (turn_each number done.turn (history before done.agent))

-- how often acts had the tables read again
abbrev pub reloaded : List Act → ℕ
reloaded [] = 0
reloaded (Reloaded ∷ before) = reloaded before + 1
reloaded (act ∷ before) = reloaded before

kept : (before : List Act) (new : List Step) → AllStay new → reloads_in (reverse (steps before ++ new)) ≡ reloads_in (record_of before)
kept before new so = ap reloads_in (reverse-append (steps before) new) ∙ no_reload (reverse new) (record_of before) (stay_reversed new so)

pub reloads_so : (acts : List Act) → reloads_in (record_of acts) ≡ reloaded acts
reloads_so [] = refl
reloads_so (Reloaded ∷ before) = ap reloads_in (reverse-append (steps before) (s.Reload ∷ [])) ∙ ap (λ n. n + 1) (reloads_so before)
reloads_so (Restarted node ∷ before) = ap reloads_in (reverse-append (steps before) (s.Restart node ∷ [])) ∙ reloads_so before
reloads_so (Asked session request words ∷ before) =
    kept before (session_steps (length (messages_in (steps before))) session (requests before session) (put_to before request words)) (session_stays (length (messages_in (steps before))) session (requests before session) (put_to before request words))
    ∙ reloads_so before
reloads_so (act ∷ before) = kept before (steps_to (length (messages_in (steps before))) before (done_by before act)) (done_stays (length (messages_in (steps before))) before (done_by before act)) ∙ reloads_so before
