-- A call of a conversation is the newest of its talk and of no other one; lines change the log alone; and nobody is served where no
-- fid ever came to name a file of lines.
use Rattle.std.proofs.Common.{◌≡◌, ℕ, List, [], ◌∷◌, true, false, cond, eqb, refl, ap, ◌∙◌}
use Rattle.file_tree.specs.declared.tree.Node.{Node}
use Rattle.file_tree.specs.declared.tree.Node.TheVariants.{Confirm, Needkey, Log}
use Rattle.side_files.specs.Calls as side
use Rattle.talks.specs.Calls as calls
use Rattle.agent_history.specs.Deeds.{Deed, OfLog, OfTalk}
use Rattle.agent_history.specs.SideFiles.{all_served, is_line_file, served, served_to}
use Rattle.agent_history.specs.Conversations.{logged, talk}
use Rattle.agent_laws.proofs.KindLaws.{same_number}
use Rattle.driven_agents.specs.Quiet.{NamesNoLines}
use Rattle.driven_agents.proofs.QuietLaws.{holder_none}

-- ---- talks

pub own_talk : (number : ℕ) (call : calls.Call) (done : List Deed) → talk (OfTalk number call ∷ done) number ≡ call ∷ talk done number
own_talk number call done = ap (λ b. cond b (call ∷ talk done number) (talk done number)) (same_number number)

pub other_talk : (number other : ℕ) (call : calls.Call) (done : List Deed) → eqb number other ≡ false → talk (OfTalk number call ∷ done) other ≡ talk done other
other_talk number other call done off = ap (λ b. cond b (call ∷ talk done other) (talk done other)) off

-- ---- the log

-- what a line doesn't change
pub logged_same : {X : Type 0} (f : List Deed → X) → ((line : List ℕ) (done : List Deed) → f (OfLog (side.Pushed line) ∷ done) ≡ f done) → (lines : List (List ℕ)) (done : List Deed) → f (logged lines done) ≡ f done
logged_same f same [] done = refl
logged_same f same (line ∷ lines) done = logged_same f same lines (OfLog (side.Pushed line) ∷ done) ∙ same line done

-- ---- files of lines

served_rests : (node : Node) (done : List Deed) → is_line_file node ≡ true → NamesNoLines done → served node done ≡ done
served_rests node done line names = ap (λ o. served_to node o done) (holder_none done node line names)

pub nobody_served : (done : List Deed) → NamesNoLines done → all_served done ≡ done
nobody_served done names =
    ap (λ d. served Log (served Needkey d)) (served_rests Confirm done refl names)
    ∙ ap (served Log) (served_rests Needkey done refl names)
    ∙ served_rests Log done refl names
