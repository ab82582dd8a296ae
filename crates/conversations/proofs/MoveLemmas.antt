-- From a call of the machine to the move of what was begun.
use Rattle.std.proofs.Common.{◌≡◌, ℕ, List, ◌∷◌, Option, Some, codes, ap, subst, sym, ◌∙◌}
use Rattle.attr_tuples.specs.Matching.{value_of}
use Rattle.key_lists.specs.Lists.{KeyEntry}
use Rattle.roles.specs.declared.answer.Gave.{Gave}
use Rattle.roles.specs.declared.key.SkKey.{SkKey}
use Rattle.roles.specs.declared.need.Need.{Need}
use Rattle.roles.specs.Starts.{Start}
use Rattle.roles.specs.Talks.{found, Call as Move}
use Rattle.talks.specs.declared.answer.RpcAnswer.{RpcAnswer}
use Rattle.talks.specs.declared.answer.RpcAnswer.TheVariants as a
use Rattle.talks.specs.Answers.{move_answer, told_key}
use Rattle.talks.specs.Protocols.{answers, needs}
use Rattle.talks.specs.Standing.{Stands}
use Rattle.talks.specs.Standings.{Begun, chosen_for, kept_key, phase_after, told_of_key, with_move}
use Rattle.conversations.specs.declared.begun.Begun.{Begun as Held}
use Rattle.conversations.specs.declared.phase.Phase.{Phase}
use Rattle.conversations.specs.Begins.{Becomes, IsBegun, Made, MoveTo}
use Rattle.conversations.specs.Meanings.{phase_of}

-- a move was made, after which template and key are as before
pub moves : (old new : Held) (phase : Phase) (move : Move) (done : RpcAnswer) (gave : Gave) → Made old.machine new.machine move gave → new.template ≡ old.template → new.key ≡ old.key → ((b : Begun) → IsBegun new b → MoveTo phase b (move_answer done b.key gave)) → (b : Begun) → IsBegun old b → Becomes new phase (with_move b move) (move_answer done b.key (answers b.start b.moves move))
moves old new phase move done gave made same_template same_key leads b is =
    let m = made b.start b.moves is.machine in
    let begun : IsBegun new (with_move b move) = record { machine = m.1; template = same_template ∙ is.template; key = same_key ∙ is.key } in
    record {
      begun = begun;
      leads = subst (λ (g : Gave). MoveTo phase (with_move b move) (move_answer done b.key g)) m.0 (leads (with_move b move) begun);
    }

-- a key was found, and is kept from then on where offers aren't needed again
pub chooses : (old new : Held) (phase : Phase) (key : KeyEntry) (told : SkKey) (password : Option (List ℕ)) (gave : Gave) (need : Need) (answer : RpcAnswer) → told ≡ told_key key → password ≡ value_of (codes "!password") key.tuple → Made old.machine new.machine (found told password) gave → new.template ≡ old.template → new.key ≡ kept_key key need → ((start : Start) (moves : List Move) → Stands new.machine start moves → need ≡ needs start moves) → phase_of phase ≡ phase_after need answer → answer ≡ move_answer a.Ok (Some key) gave → (b : Begun) → IsBegun old b → Becomes new phase (chosen_for key b) (move_answer a.Ok (Some key) (answers b.start b.moves (told_of_key key)))
chooses old new phase key told password gave need answer is_told is_password made same_template is_key shown leads is_answer b is =
    let made_so : Made old.machine new.machine (told_of_key key) gave =
    subst (λ (t : SkKey). Made old.machine new.machine (found t (value_of (codes "!password") key.tuple)) gave) is_told (subst (λ (p : Option (List ℕ)). Made old.machine new.machine (found told p) gave) is_password made) in
    let m = made_so b.start b.moves is.machine in
    let needed : need ≡ needs b.start (told_of_key key ∷ b.moves) = shown b.start (told_of_key key ∷ b.moves) m.1 in
    record {
      begun = record { machine = m.1; template = same_template ∙ is.template; key = is_key ∙ ap (λ (n : Need). kept_key key n) needed };
      leads = leads ∙ (ap (λ (n : Need). phase_after n answer) needed ∙ ap (λ (r : RpcAnswer). phase_after (needs b.start (told_of_key key ∷ b.moves)) r) (is_answer ∙ ap (λ (g : Gave). move_answer a.Ok (Some key) g) m.0));
    }

-- a move that takes no memory and is answered `ok`
pub moves_well : (old new : Held) (phase : Phase) (move : Move) (need : Need) (b : Begun) → Stands new.machine b.start (move ∷ b.moves) → new.template ≡ old.template → new.key ≡ old.key → ((start : Start) (moves : List Move) → Stands new.machine start moves → need ≡ needs start moves) → phase_of phase ≡ phase_after need a.Ok → move_answer a.Ok b.key (answers b.start b.moves move) ≡ a.Ok → IsBegun old b → Becomes new phase (with_move b move) (move_answer a.Ok b.key (answers b.start b.moves move))
moves_well old new phase move need b stands same_template same_key shown leads well is =
    record {
      begun = record { machine = stands; template = same_template ∙ is.template; key = same_key ∙ is.key };
      leads = leads ∙ (ap (λ (n : Need). phase_after n a.Ok) (shown b.start (move ∷ b.moves) stands) ∙ ap (λ (r : RpcAnswer). phase_after (needs b.start (move ∷ b.moves)) r) (sym well));
    }
