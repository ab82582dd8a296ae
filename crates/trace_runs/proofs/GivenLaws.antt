-- What an act gives to the network is what the labels of its events are.
use Rattle.std.proofs.Common.{◌≡◌, ℕ, refl, sym, ap, ◌∙◌, ◌++◌, List, map, Option, Some, None, option_map, Bool, true, false}
use Rattle.std.specs.Prelude.{option_copied}
use Rattle.std.specs.Borrow.{Bor}
use Rattle.symbolic_runs.specs.Moves as table
use Rattle.symbolic_runs.specs.Runs.{Setting, given, moves}
use Rattle.symbolic_runs.specs.Trees.{Tree}
use Rattle.wire_histories.specs.Histories.{Act, started, gave, took, asked, answered, unanswered, accepted, failed}
use Rattle.clean_runs.specs.Labels.{Labelled}
use Rattle.clean_runs.specs.Runs.{acts_in, if_some, is_choosing, moves_by, moves_for, talk_events}
use Rattle.trace_runs.specs.declared.conversation.Conversation.{Conversation}
use Rattle.trace_runs.specs.declared.moves.Move.{Move}
use Rattle.trace_runs.specs.Given.{events_by, given_by, label_of}
use Rattle.trace_runs.specs.Stages.{StandsFor, chooses}
use Rattle.trace_runs.specs.Views.{move_of, newest_first, own_of, role_of}
use Rattle.trace_runs.proofs.ConversationLaws.{its_choice, its_moves}

one_given : (s : Setting) (number : ℕ) (made : Option table.Move) → given s (map (moves number) (if_some made)) ≡ if_some (label_of made)
one_given s number None = refl
one_given s number (Some (table.takes t)) = refl
one_given s number (Some (table.hears t)) = refl
one_given s number (Some (table.gives t)) = refl
one_given s number (Some (table.asks t)) = refl
one_given s number (Some (table.accepts user)) = refl
one_given s number (Some table.fails) = refl

made_given : (s : Setting) (number : ℕ) (made : Option table.Move) (ms : List table.Move) → if_some made ≡ ms → given s (map (moves number) ms) ≡ if_some (label_of made)
made_given s number made ms e = ap (λ xs. given s (map (moves number) xs)) (sym e) ∙ one_given s number made

act_given : (s : Setting) (number : ℕ) (own : table.Own) (role : table.Role) (choosing : Bool) (before : List table.Move) (act : Act) (label : Tree) (made : Option table.Move)
    → if_some made ≡ moves_for own role choosing before act label
    → given s (talk_events number choosing act ++ map (moves number) (moves_for own role choosing before act label)) ≡ if_some (given_by act choosing made)
act_given s number own role true before (gave b) label made e = refl
act_given s number own role false before (gave b) label made e = made_given s number made _ e
act_given s number own role choosing before (started p r w) label made e = made_given s number made _ e
act_given s number own role choosing before (took b) label made e = made_given s number made _ e
act_given s number own role choosing before (asked b) label made e = made_given s number made _ e
act_given s number own role choosing before (answered b) label made e = made_given s number made _ e
act_given s number own role choosing before unanswered label made e = made_given s number made _ e
act_given s number own role choosing before (accepted cuid suid) label made e = made_given s number made _ e
act_given s number own role choosing before (failed cause) label made e = made_given s number made _ e

pub gives_so : (own : table.Own) (role : table.Role) (acts : List Labelled) (a : Labelled) (c : Conversation) (made : Option table.Move) (label : Option Tree)
    → StandsFor own role acts c
    → if_some made ≡ moves_for (own_of c.own) (role_of c.role) (chooses c.stage) (newest_first c.moves.items) a.act a.label
    → label ≡ given_by a.act (chooses c.stage) made
    → (s : Setting) (number : ℕ) → given s (events_by number own role acts a) ≡ if_some label
gives_so own role acts a c made label h by is s number =
    act_given s number own role (is_choosing (acts_in acts)) (moves_by own role acts) a.act a.label made (by ∙ its_moves own role acts a c h)
    ∙ ap (λ so. if_some (given_by a.act so made)) (sym (its_choice own role acts c h)) ∙ ap if_some (sym is)

pub lent_move : (o : Option (Bor Move)) (made : Option Move) → option_copied o ≡ made → option_map (λ m. move_of m.now) o ≡ option_map move_of made
lent_move None made e = ap (option_map move_of) e
lent_move (Some m) made e = ap (option_map move_of) e
