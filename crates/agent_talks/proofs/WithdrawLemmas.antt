-- The questions of those who leave are withdrawn, one after the other.
use Rattle.std.proofs.Common.{◌≡◌, ◌<◌, ◌+◌, ℕ, List, ◌∷◌, Bool, true, false, length, get_or, drop, map, cond, filter, subst}
use Rattle.std.proofs.lemmas.List.{drop_more}
use Rattle.side_files.specs.declared.line.PromptKind.TheVariants as k
use Rattle.side_files.specs.Calls as side
use Rattle.agent_history.specs.Deeds.{Deed, OfPrompts}
use Rattle.agent_history.specs.Conversations.{all_withdrawn}
use Rattle.agent_talks.specs.declared.speaker.Speaker.{Speaker}
use Rattle.agent_talks.specs.declared.speaker.Leaving.{Leaving}
use Rattle.agent_talks.specs.Kept.{leaves}
use Rattle.agent_talks.specs.declared.files.LineFiles.{LineFiles}
use Rattle.agent_talks.specs.Files.{Files}
use Rattle.agent_talks.specs.Asking.{convs_leaving}

-- those of some are left to be withdrawn
pub record Withdrawing (who : Leaving) (left all : List Speaker) (done : List Deed) (now : LineFiles) : Type 0 where
  pub deeds : List Deed
  pub files : Files deeds now
  pub rest : all_withdrawn (convs_leaving who left) deeds ≡ all_withdrawn (convs_leaving who all) done

-- one of them is gone through
stepped : (who : Leaving) (s : Speaker) (more : List Speaker) (deeds after : List Deed) (goes : Bool) → leaves who s ≡ goes → all_withdrawn (convs_leaving who (s ∷ more)) deeds ≡ after → all_withdrawn (map (λ x. x.conv) (cond goes (s ∷ filter (λ x. leaves who x) more) (filter (λ x. leaves who x) more))) deeds ≡ after
stepped who s more deeds after goes is e = subst (λ (b : Bool). all_withdrawn (map (λ x. x.conv) (cond b (s ∷ filter (λ x. leaves who x) more) (filter (λ x. leaves who x) more))) deeds ≡ after) is e

pub one_leaves : (who : Leaving) (all : List Speaker) (i : ℕ) (d : Speaker) (done : List Deed) (old mid new : LineFiles) → i < length all → leaves who (get_or all i d) ≡ true
    → ((before : List Deed) → Files before old → Files (OfPrompts k.Confirm (side.Withdrawn (get_or all i d).conv) ∷ before) mid) → ((before : List Deed) → Files before mid → Files (OfPrompts k.Needkey (side.Withdrawn (get_or all i d).conv) ∷ before) new)
    → Withdrawing who (drop i all) all done old → Withdrawing who (drop (i + 1) all) all done new
one_leaves who all i d done old mid new within is confirm needkey w =
    let s = get_or all i d in
    record {
      deeds = OfPrompts k.Needkey (side.Withdrawn s.conv) ∷ OfPrompts k.Confirm (side.Withdrawn s.conv) ∷ w.deeds;
      files = needkey (OfPrompts k.Confirm (side.Withdrawn s.conv) ∷ w.deeds) (confirm w.deeds w.files);
      rest = stepped who s (drop (i + 1) all) w.deeds (all_withdrawn (convs_leaving who all) done) true is (subst (λ (xs : List Speaker). all_withdrawn (convs_leaving who xs) w.deeds ≡ all_withdrawn (convs_leaving who all) done) (drop_more all i d within) w.rest);
    }

pub one_stays : (who : Leaving) (all : List Speaker) (i : ℕ) (d : Speaker) (done : List Deed) (now : LineFiles) → i < length all → leaves who (get_or all i d) ≡ false → Withdrawing who (drop i all) all done now → Withdrawing who (drop (i + 1) all) all done now
one_stays who all i d done now within is w = record {
  deeds = w.deeds;
  files = w.files;
  rest = stepped who (get_or all i d) (drop (i + 1) all) w.deeds (all_withdrawn (convs_leaving who all) done) false is (subst (λ (xs : List Speaker). all_withdrawn (convs_leaving who xs) w.deeds ≡ all_withdrawn (convs_leaving who all) done) (drop_more all i d within) w.rest);
}
