-- What a read is told that waited is by the file that its fid has open: whoever has a conversation open has rpc open, and who
-- holds a file has that open.
use Rattle.std.proofs.Common.{◌≡◌, ℕ, List, ◌∷◌, Bool, true, false, cond, ◌&&◌, Option, sym, ap, subst, ◌∙◌, refl, inl, inr}
use Rattle.std.specs.Prelude.{◌⊎◌}
use Rattle.std.specs.List.{list_any}
use Rattle.std.proofs.lemmas.Bool.{and_parts}
use Rattle.nine.specs.declared.message.RBody.{RBody}
use Rattle.file_tree.specs.declared.tree.Node.{Node}
use Rattle.file_tree.specs.declared.tree.Node.TheVariants.{Rpc, Root, Factotum, Ctl, Confirm, Needkey, Proto, Log}
use Rattle.file_tree.specs.declared.tree.FidState.{FidState}
use Rattle.file_tree.specs.Calls.{is_open, node_of}
use Rattle.side_files.specs.Lines.{Nothing, TooLong, First}
use Rattle.talks.specs.Calls as calls
use Rattle.agent_history.specs.Deeds.{Deed, OfTalk, fid_of, holder_of, names}
use Rattle.agent_history.specs.Replies.{Wait}
use Rattle.agent_history.specs.Conversations.{Speaker, fits, speakers}
use Rattle.agent_laws.specs.Laws.{IsAnswerTold, IsLineTold, IsOverTold, IsToldBy, IsToldOf}
use Rattle.agent_laws.proofs.KindLaws.{IsToldSomehow}
use Rattle.agent_laws.proofs.MetLaws.{line_holder}
use Rattle.agent_laws.proofs.ConversationLaws.{OpenersSpeak, is_at, speaks_there}
use Rattle.agent_laws.proofs.ExclusiveLaws.{Opener, names_it}

took_speakers : (b : Bool) (conv : ℕ) (done : List Deed) → speakers (cond b (OfTalk conv calls.Took ∷ done) done) ≡ speakers done
took_speakers true conv done = refl
took_speakers false conv done = refl

-- a fid that has a file open is of it
is_file : (node : Node) (o : Option FidState) → (names node o && is_open o) ≡ true → node_of o ≡ node
is_file node o h = names_it node o (and_parts (names node o) (is_open o) h).0

on_answer : (done : List Deed) (conn : ℕ) (wait : Wait) (body : RBody) → OpenersSpeak done → IsAnswerTold done conn wait body → node_of (fid_of done conn wait.fid) ≡ Rpc
on_answer done conn wait body speak t =
    let s : Speaker = record { conv = t.conv; conn = conn; fid = wait.fid } in
    let before = speaks_there t.conv conn wait.fid s (speakers t.earlier) refl refl t.speaks in
    let same : speakers done ≡ speakers t.earlier = ap speakers t.took ∙ took_speakers (fits wait.count t.answer) t.conv t.earlier in
    is_file Rpc (fid_of done conn wait.fid) (sym (speak conn wait.fid) ∙ ap (list_any (is_at conn wait.fid)) same ∙ before)

-- of a file that isn't rpc
of_file : (node : Node) (done : List Deed) (conn : ℕ) (wait : Wait) (body : RBody) → Opener done → IsLineTold node done conn wait body ⊎ IsOverTold node done conn wait body → node_of (fid_of done conn wait.fid) ≡ node
of_file node done conn wait body opener (inl t) =
    is_file node (fid_of done conn wait.fid) (opener node conn wait.fid (ap (λ (d : List Deed). holder_of d node) t.read ∙ line_holder node node t.earlier ∙ t.holds))
of_file node done conn wait body opener (inr t) = is_file node (fid_of done conn wait.fid) (opener node conn wait.fid t.holds)

by_file : (node : Node) (done : List Deed) (conn : ℕ) (wait : Wait) (body : RBody) → IsLineTold node done conn wait body ⊎ IsOverTold node done conn wait body → IsToldBy node done conn wait body
by_file Confirm done conn wait body t = t
by_file Needkey done conn wait body t = t
by_file Log done conn wait body t = t
by_file Root done conn wait body t = t
by_file Factotum done conn wait body t = t
by_file Ctl done conn wait body t = t
by_file Proto done conn wait body t = t
by_file Rpc done conn wait body (inl t) = absurd (let no_way : Nothing ≡ First t.line = t.first in cc)
by_file Rpc done conn wait body (inr t) = absurd (let no_way : Nothing ≡ TooLong = t.over in cc)

pub told_by_file : (done : List Deed) (conn : ℕ) (wait : Wait) (body : RBody) → OpenersSpeak done → Opener done → IsToldSomehow done conn wait body → IsToldOf done conn wait body
told_by_file done conn wait body speak opener (inl t) = subst (λ (n : Node). IsToldBy n done conn wait body) (sym (on_answer done conn wait body speak t)) t
told_by_file done conn wait body speak opener (inr (node, t)) = subst (λ (n : Node). IsToldBy n done conn wait body) (sym (of_file node done conn wait body opener t)) (by_file node done conn wait body t)
