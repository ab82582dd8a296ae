-- What was done to an agent, put together from what was written, read and recorded.
use Rattle.std.proofs.Common.{◌≡◌, ℕ, ◌+◌, List, [], ◌∷◌, ◌++◌, length, Bool, true, false, Option, None, refl, sym, ap, subst, append_assoc, ◌∙◌}
use Rattle.agent_history.specs.declared.event.Event.{Event}
use Rattle.agent_history.specs.declared.event.Event.TheVariants as events
use Rattle.agent_history.specs.Histories.{History}
use Rattle.agent_core.specs.declared.agent.Agent.{Agent}
use Rattle.wire_histories.specs.declared.step.Step.{Step}
use Rattle.wire_histories.specs.declared.step.Step.TheVariants as s
use Rattle.world_history.specs.Driving.{clunks, drive, is_refused, questions_to, reads, replies_to, writes}
use Rattle.world_history.specs.Talking as talk
use Rattle.world_history.specs.Talking.{all_reply_steps, ask_steps, breaks, came, end_steps, following, outcome_in, own_steps, request_text, word_of}
use Rattle.world_history.specs.Turns as does
use Rattle.world_history.specs.Turns.{after, turn_questions, turn_steps}
use Rattle.world_history.specs.Worlds.{last_call}
use Rattle.agent_turns.specs.declared.takes.Driven.{Driven}
use Rattle.agent_turns.specs.Drives.{Drives, frames_of}
use Rattle.agent_turns.specs.declared.following.Came.{Came}
use Rattle.agent_turns.specs.declared.turns.Turned.{Turned}
use Rattle.agent_turns.specs.Frames.{all_frame_steps, are_taken, told_frames}
use Rattle.agent_turns.specs.Turning.{Comes, Turns, follow, own}
use Rattle.agent_turns.proofs.FrameLemmas.{all_same, taken_same, told_same}

pub follow_same : (number : ℕ) (conv : List ℕ) (fid : ℕ) (event : Event) (H : History) (agent : Agent) (c : Came) → Comes fid event H agent c → follow number conv c ≡ following number conv (came fid event H)
follow_same number conv fid event H agent c k =
    let asked : List Step = ask_steps number conv (questions_to event H) in
    let ended : List Step = end_steps conv (outcome_in fid H) (outcome_in fid (drive event H)) in
    let behind : ℕ = number + length (questions_to event H) in
    let broke : Bool = breaks (outcome_in fid H) (outcome_in fid (drive event H)) in
    rw (k.questions, k.before, k.now, k.replies)
    (ap (λ (l : List Step). asked ++ (ended ++ l)) (all_same (replies_to event H) behind conv broke)
    ∙ sym (append_assoc asked ended (all_reply_steps behind conv broke (replies_to event H))))

pub own_same : (conv : List ℕ) (what : talk.Asks) (fid : ℕ) (event : Event) (H : History) (agent : Agent) (c : Came) → Comes fid event H agent c → own conv what c ≡ own_steps conv what (came fid event H)
own_same conv (talk.starts word tuple) fid event H agent c k = rw (k.before, k.now) refl
own_same conv talk.gets fid event H agent c k = refl
own_same conv (talk.gives bytes) fid event H agent c k = rw (k.replies, taken_same (replies_to event H)) refl

pub met_so : (fid : ℕ) (event : Event) (H : History) (agent : Agent) (c : Came) (d : Driven) → Drives event H agent d → c.driven ≡ d → c.before ≡ outcome_in fid H → c.now ≡ outcome_in fid (drive event H) → Comes fid event H agent c
met_so fid event H agent c d drives is before now = record {
  stands = drives.stands;
  replies = rw is drives.replies;
  questions = rw is drives.questions;
  before = before;
  now = now;
}

pub ask_refused : (number : ℕ) (conv : List ℕ) (fid : ℕ) (what : talk.Asks) (H : History) (event : Event) (agent : Agent) (d : Driven) (turned : Turned)
    → event ≡ writes fid (request_text what) → Drives event H agent d → is_refused (replies_to event H) ≡ true
    → turned.steps.items ≡ all_frame_steps number conv false d.replies → turned.call ≡ None → Turns number (does.asks conv fid what) H agent turned
unfolding after turn_steps turn_questions
ask_refused number conv fid what H event agent d turned is drives refused steps call =
    let w : Event = writes fid (request_text what) in
    let drives = subst (λ (e : Event). Drives e H agent d) is drives in
    let refused : is_refused (replies_to w H) ≡ true = sym (ap (λ (e : Event). is_refused (replies_to e H)) is) ∙ refused in
    record {
      stands = rw refused drives.stands;
      steps = rw refused (steps ∙ ap (all_frame_steps number conv false) drives.replies ∙ all_same (replies_to w H) number conv false);
      call = rw refused call;
    }

pub ask_read : (number : ℕ) (conv : List ℕ) (fid : ℕ) (what : talk.Asks) (H : History) (event next : Event) (agent : Agent) (c : Came) (turned : Turned)
    → event ≡ writes fid (request_text what) → is_refused (replies_to event H) ≡ false → next ≡ reads fid (word_of what) → Comes fid next (drive event H) agent c
    → turned.steps.items ≡ own conv what c ++ follow number conv c → turned.call ≡ last_call c.driven.questions None → Turns number (does.asks conv fid what) H agent turned
unfolding after turn_steps turn_questions
ask_read number conv fid what H event next agent c turned is granted then comes steps call =
    let w : Event = writes fid (request_text what) in
    let r : Event = reads fid (word_of what) in
    let comes = subst (λ (e : Event). Comes fid r (drive e H) agent c) is (subst (λ (e : Event). Comes fid e (drive event H) agent c) then comes) in
    let granted : is_refused (replies_to w H) ≡ false = sym (ap (λ (e : Event). is_refused (replies_to e H)) is) ∙ granted in
    record {
      stands = rw granted comes.stands;
      steps = rw granted (steps ∙ ap (λ (l : List Step). l ++ follow number conv c) (own_same conv what fid r (drive w H) agent c comes)
          ∙ ap (λ (l : List Step). own_steps conv what (came fid r (drive w H)) ++ l) (follow_same number conv fid r (drive w H) agent c comes));
      call = rw granted (call ∙ ap (λ l. last_call l None) comes.questions);
    }

pub heard_so : (number : ℕ) (conv : List ℕ) (fid call : ℕ) (bytes : List ℕ) (H : History) (agent : Agent) (c : Came) (turned : Turned) → Comes fid (events.Answer call bytes) H agent c
    → turned.steps.items ≡ s.Heard conv bytes ∷ follow number conv c → turned.call ≡ last_call c.driven.questions None → Turns number (does.hears conv fid call bytes) H agent turned
unfolding after turn_steps turn_questions
heard_so number conv fid call bytes H agent c turned comes steps last = record {
  stands = comes.stands;
  steps = steps ∙ ap (λ (l : List Step). s.Heard conv bytes ∷ l) (follow_same number conv fid (events.Answer call bytes) H agent c comes);
  call = last ∙ ap (λ l. last_call l None) comes.questions;
}

pub missed_so : (number : ℕ) (conv : List ℕ) (fid call : ℕ) (H : History) (agent : Agent) (c : Came) (turned : Turned) → Comes fid (events.NoAnswer call) H agent c
    → turned.steps.items ≡ s.Unheard conv ∷ follow number conv c → turned.call ≡ last_call c.driven.questions None → Turns number (does.misses conv fid call) H agent turned
unfolding after turn_steps turn_questions
missed_so number conv fid call H agent c turned comes steps last = record {
  stands = comes.stands;
  steps = steps ∙ ap (λ (l : List Step). s.Unheard conv ∷ l) (follow_same number conv fid (events.NoAnswer call) H agent c comes);
  call = last ∙ ap (λ l. last_call l None) comes.questions;
}

pub closed_so : (number : ℕ) (conv : List ℕ) (fid : ℕ) (H : History) (event : Event) (agent : Agent) (d : Driven) (turned : Turned) → event ≡ clunks fid → Drives event H agent d
    → turned.steps.items ≡ all_frame_steps number conv false d.replies → turned.call ≡ None → Turns number (does.closes conv fid) H agent turned
unfolding after turn_steps turn_questions
closed_so number conv fid H event agent d turned is drives steps call =
    let drives = subst (λ (e : Event). Drives e H agent d) is drives in
    record {
      stands = drives.stands;
      steps = steps ∙ ap (all_frame_steps number conv false) drives.replies ∙ all_same (replies_to (clunks fid) H) number conv false;
      call = call;
    }

pub told_so : (number : ℕ) (node line : List ℕ) (H : History) (event : Event) (agent : Agent) (d : Driven) (turned : Turned) → event ≡ writes 1 line → Drives event H agent d
    → turned.steps.items ≡ told_frames node d.replies → turned.call ≡ None → Turns number (does.tells node line) H agent turned
unfolding after turn_steps turn_questions
told_so number node line H event agent d turned is drives steps call =
    let drives = subst (λ (e : Event). Drives e H agent d) is drives in
    record {
      stands = drives.stands;
      steps = steps ∙ ap (told_frames node) drives.replies ∙ told_same node (replies_to (writes 1 line) H);
      call = call;
    }
