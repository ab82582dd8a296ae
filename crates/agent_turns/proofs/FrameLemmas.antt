-- What is recorded of replies by their frames is what is recorded of the replies.
use Rattle.std.proofs.Common.{◌≡◌, ℕ, ◌+◌, List, [], ◌∷◌, ◌++◌, Bool, Option, refl, sym, ap, ◌∙◌}
use Rattle.std.proofs.lemmas.List.Concat.{flat_map-cons}
use Rattle.nine.specs.declared.message.RMsg.{RMsg}
use Rattle.nine.specs.declared.message.RBody.{RBody}
use Rattle.nine.specs.declared.message.RBody.TheVariants as r
use Rattle.nine.specs.Messages.{r_frame}
use Rattle.wire_histories.specs.declared.step.Step.{Step}
use Rattle.world_history.specs.Talking.{all_reply_steps, is_out, is_taken, is_taken_by, reply_steps}
use Rattle.world_history.specs.Turns as does
use Rattle.world_history.specs.Turns.{told_steps}
use Rattle.agent_turns.specs.Drives.{frames_of}
use Rattle.agent_turns.specs.Texts.{content_of, error_of}
use Rattle.agent_turns.proofs.DrivenFrames.{content_told, error_told}
use Rattle.agent_turns.specs.Frames.{all_frame_steps, are_taken, content, frame_steps, refusal, refused_by, says_taken, steps_by, told_frames}

by_body : (number : ℕ) (conv : List ℕ) (broke : Bool) (body : RBody) → steps_by number conv broke (content_of body) (error_of body) ≡ reply_steps number conv broke body
by_body number conv broke (r.Version msize version) = refl
by_body number conv broke (r.Auth aqid) = refl
by_body number conv broke (r.Attach qid) = refl
by_body number conv broke (r.Error ename) = refl
by_body number conv broke r.Flush = refl
by_body number conv broke (r.Walk wqid) = refl
by_body number conv broke (r.Open qid iounit) = refl
by_body number conv broke (r.Create qid iounit) = refl
by_body number conv broke (r.Read content) = refl
by_body number conv broke (r.Write count) = refl
by_body number conv broke r.Clunk = refl
by_body number conv broke r.Remove = refl
by_body number conv broke (r.Stat stat) = refl
by_body number conv broke r.Wstat = refl

one_same : (number : ℕ) (conv : List ℕ) (broke : Bool) (m : RMsg) → frame_steps number conv broke (r_frame m) ≡ reply_steps number conv broke m.body
one_same number conv broke m =
    ap (λ (o : Option (List ℕ)). steps_by number conv broke o (refusal (r_frame m))) (content_told m (r_frame m) refl)
    ∙ ap (λ (o : Option (List ℕ)). steps_by number conv broke (content_of m.body) o) (error_told m (r_frame m) refl)
    ∙ by_body number conv broke m.body

pub all_same : (ms : List RMsg) (number : ℕ) (conv : List ℕ) (broke : Bool) → all_frame_steps number conv broke (frames_of ms) ≡ all_reply_steps number conv broke ms
all_same [] number conv broke = refl
all_same (m ∷ more) number conv broke =
    ap (λ (s : List Step). s ++ all_frame_steps (number + is_out s) conv broke (frames_of more)) (one_same number conv broke m)
    ∙ ap (λ (l : List Step). reply_steps number conv broke m.body ++ l) (all_same more (number + is_out (reply_steps number conv broke m.body)) conv broke)

taken_by_body : (body : RBody) → says_taken (content_of body) ≡ is_taken_by body
taken_by_body (r.Version msize version) = refl
taken_by_body (r.Auth aqid) = refl
taken_by_body (r.Attach qid) = refl
taken_by_body (r.Error ename) = refl
taken_by_body r.Flush = refl
taken_by_body (r.Walk wqid) = refl
taken_by_body (r.Open qid iounit) = refl
taken_by_body (r.Create qid iounit) = refl
taken_by_body (r.Read content) = refl
taken_by_body (r.Write count) = refl
taken_by_body r.Clunk = refl
taken_by_body r.Remove = refl
taken_by_body (r.Stat stat) = refl
taken_by_body r.Wstat = refl

pub taken_same : (ms : List RMsg) → are_taken (frames_of ms) ≡ is_taken ms
taken_same [] = refl
taken_same (m ∷ more) = ap says_taken (content_told m (r_frame m) refl) ∙ taken_by_body m.body

told_by_body : (node : List ℕ) (body : RBody) → refused_by node (error_of body) ≡ does.refused_by node body
told_by_body node (r.Version msize version) = refl
told_by_body node (r.Auth aqid) = refl
told_by_body node (r.Attach qid) = refl
told_by_body node (r.Error ename) = refl
told_by_body node r.Flush = refl
told_by_body node (r.Walk wqid) = refl
told_by_body node (r.Open qid iounit) = refl
told_by_body node (r.Create qid iounit) = refl
told_by_body node (r.Read content) = refl
told_by_body node (r.Write count) = refl
told_by_body node r.Clunk = refl
told_by_body node r.Remove = refl
told_by_body node (r.Stat stat) = refl
told_by_body node r.Wstat = refl

pub told_same : (node : List ℕ) (ms : List RMsg) → told_frames node (frames_of ms) ≡ told_steps node ms
told_same node [] = refl
told_same node (m ∷ more) =
    flat_map-cons (λ frame. refused_by node (refusal frame)) (r_frame m) (frames_of more)
    ∙ ap (λ (o : Option (List ℕ)). refused_by node o ++ told_frames node (frames_of more)) (error_told m (r_frame m) refl)
    ∙ ap (λ (l : List Step). l ++ told_frames node (frames_of more)) (told_by_body node m.body)
    ∙ ap (λ (l : List Step). does.refused_by node m.body ++ l) (told_same node more)
    ∙ sym (flat_map-cons (λ m. does.refused_by node m.body) m more)
