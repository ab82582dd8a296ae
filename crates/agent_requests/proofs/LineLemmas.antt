-- A line that is handed out has at most so many bytes.
use Rattle.std.proofs.Common.{◌≡◌, ◌≤◌, ℕ, List, [], ◌∷◌, length, take, Bool, true, false, cond, ltb, Option, Some, None, Ok, refl, sym, ap, subst, ◌∙◌}
use Rattle.std.specs.Prelude.{option_map}
use Rattle.std.proofs.lemmas.Bool.{ltb-false}
use Rattle.std.proofs.lemmas.List.{take_all}
use Rattle.file_tree.specs.declared.tree.Node.{Node}
use Rattle.side_files.specs.Lines.{TooLong, First, Hands, found, if_handed}
use Rattle.agent_history.specs.Deeds.{Deed}
use Rattle.agent_history.specs.SideFiles.{line_read}
use Rattle.agent_talks.specs.declared.standing.Conversations.{Conversations}
use Rattle.agent_talks.specs.Logging.{Logs}
use Rattle.agent_requests.specs.declared.shared.Shared.{Shared}
use Rattle.agent_requests.specs.Sharing.{Shares}
use Rattle.agent_requests.proofs.OwnDeeds.{read_talks}
use Rattle.agent_requests.proofs.ShareLemmas.{Rest, rest_of, rest_talks, shares_with, with_talks}

-- what is found as the first line has
found_short : (count : ℕ) (lines : List (List ℕ)) (line : List ℕ) → found count lines ≡ First line → length line ≤ count
found_short count [] line e = absurd cc
found_short count (first ∷ lines) line e = here (ltb count (length first)) refl e
  where
    here : (b : Bool) → ltb count (length first) ≡ b → cond b TooLong (First first) ≡ First line → length line ≤ count
    here true is e = absurd cc
    here false is e = let same : first ≡ line = cc in subst (λ (l : List ℕ). length l ≤ count) same (ltb-false count (length first) is)

-- so that it is the same where it is cut there
pub cut_hands : (count : ℕ) (lines : List (List ℕ)) (o : Option (List ℕ)) → Hands (found count lines) (Ok o) → Hands (found count lines) (Ok (option_map (take count) o))
cut_hands count lines None e = e
cut_hands count lines (Some line) e = e ∙ ap First (sym (take_all count line (found_short count lines line e)))

pub cut_handed : {A : Type 0} (count : ℕ) (o : Option (List ℕ)) (new old : A) → if_handed (Ok (option_map (take count) o)) new old ≡ if_handed (Ok o) new old
cut_handed count None new old = refl
cut_handed count (Some line) new old = refl

-- what is shared behind a line that is handed out
handed_rest : (done : List Deed) (node : Node) (s : Shared) (o : Option (List ℕ)) → Rest done s → Rest (if_handed (Ok o) (line_read node done) done) s
handed_rest done node s None h = h
handed_rest done node s (Some line) h = read_talks (λ now. Rest now s) (rest_talks s) node done h

pub handed_shares : (done : List Deed) (node : Node) (s : Shared) (t : Conversations) (count : ℕ) (o : Option (List ℕ)) → Shares done s → Logs (if_handed (Ok o) (line_read node done) done) t → Shares (if_handed (Ok (option_map (take count) o)) (line_read node done) done) (with_talks s t)
handed_shares done node s t count o h logs =
    subst (λ (now : List Deed). Shares now (with_talks s t)) (sym (cut_handed count o (line_read node done) done))
    (shares_with (if_handed (Ok o) (line_read node done) done) s t (handed_rest done node s o (rest_of done s h)) logs)
