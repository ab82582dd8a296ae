-- What is recorded of replies, read off their frames.
use Rattle.std.specs.Prelude.{ℕ, ◌+◌, List, [], ◌∷◌, ◌++◌, Bool, true, false, not, Option, Some, None}
use Rattle.std.specs.List.{flat_map}
use Rattle.wire_histories.specs.declared.step.Step.{Step}
use Rattle.wire_histories.specs.declared.step.Step.TheVariants.{Reply, Refused}
use Rattle.world_history.specs.Talking.{answer_steps, is_out, leaves_untaken}
use Rattle.agent_turns.specs.Texts.{text_at}

-- what a frame gives to a read, and why it refuses
abbrev pub content : List ℕ → Option (List ℕ)
content frame = text_at 117 11 frame

abbrev pub refusal : List ℕ → Option (List ℕ)
refusal frame = text_at 107 9 frame

abbrev pub steps_by : ℕ → List ℕ → Bool → Option (List ℕ) → Option (List ℕ) → List Step
steps_by number conv broke (Some text) refused = answer_steps number conv broke text
steps_by number conv broke None (Some text) = Reply conv text ∷ []
steps_by number conv broke None None = []

abbrev pub frame_steps : ℕ → List ℕ → Bool → List ℕ → List Step
frame_steps number conv broke frame = steps_by number conv broke (content frame) (refusal frame)

abbrev pub all_frame_steps : ℕ → List ℕ → Bool → List (List ℕ) → List Step
all_frame_steps number conv broke [] = []
all_frame_steps number conv broke (frame ∷ more) =
    let steps = frame_steps number conv broke frame in
    steps ++ all_frame_steps (number + is_out steps) conv broke more

-- what was given was taken
abbrev pub says_taken : Option (List ℕ) → Bool
says_taken None = false
says_taken (Some text) = not (leaves_untaken text)

abbrev pub are_taken : List (List ℕ) → Bool
are_taken [] = true
are_taken (frame ∷ more) = says_taken (content frame)

-- what is recorded of replies on ctl
abbrev pub refused_by : List ℕ → Option (List ℕ) → List Step
refused_by node None = []
refused_by node (Some text) = Refused node text ∷ []

abbrev pub told_frames : List ℕ → List (List ℕ) → List Step
told_frames node frames = flat_map (λ frame. refused_by node (refusal frame)) frames
