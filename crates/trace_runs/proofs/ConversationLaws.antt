-- An act more of a conversation.
use Rattle.std.proofs.Common.{◌≡◌, ℕ, sym, ap, ◌∙◌, [], ◌∷◌, ◌++◌, List, map, reverse, Some, option_map, eqb, length, Result, Ok, Err, OnErr}
use Rattle.std.specs.List.{list_any}
use Rattle.std.proofs.lemmas.List.{map-append, reverse-append}
use Rattle.symbolic_runs.specs.Moves as table
use Rattle.clean_runs.specs.Labels.{Labelled}
use Rattle.clean_runs.specs.Runs.{acts_in, if_some, is_choosing, moves_by, moves_for}
use Rattle.trace_runs.specs.declared.conversation.Conversation.{Conversation}
use Rattle.trace_runs.specs.declared.moves.Move.{Move}
use Rattle.trace_runs.specs.Stages.{StandsFor, chooses, stage_after}
use Rattle.trace_runs.specs.Views.{move_of, newest_first, own_of, role_of}
use Rattle.trace_runs.proofs.RowSizes.{as_many}
use Rattle.trace_runs.proofs.StageLaws.{choosing_is}

pub one_newest : (front : List Move) (last : Move) → newest_first (front ++ last ∷ []) ≡ move_of last ∷ newest_first front
one_newest front last = ap reverse (map-append move_of front (last ∷ [])) ∙ reverse-append (map move_of front) (move_of last ∷ [])

pub newest_of : (all front : List Move) (last : Move) → all ≡ front ++ last ∷ [] → newest_first all ≡ move_of last ∷ newest_first front
newest_of all front last e = ap newest_first e ∙ one_newest front last

pub turns_so : (turns : List ℕ) (moves : List Move) (done : ℕ) → done ≡ length moves → list_any (λ turn. eqb turn done) turns ≡ list_any (λ turn. eqb turn (length (newest_first moves))) turns
turns_so turns moves done e = ap (λ n. list_any (λ turn. eqb turn n) turns) (e ∙ sym (as_many moves))

-- a conversation is choosing where its labelled acts say so, and its moves of an act are theirs
pub its_choice : (own : table.Own) (role : table.Role) (acts : List Labelled) (c : Conversation) → StandsFor own role acts c → chooses c.stage ≡ is_choosing (acts_in acts)
its_choice own role acts c h = ap chooses h.stage_is ∙ sym (choosing_is (acts_in acts))

pub its_moves : (own : table.Own) (role : table.Role) (acts : List Labelled) (a : Labelled) (c : Conversation) → StandsFor own role acts c
    → moves_for (own_of c.own) (role_of c.role) (chooses c.stage) (newest_first c.moves.items) a.act a.label ≡ moves_for own role (is_choosing (acts_in acts)) (moves_by own role acts) a.act a.label
its_moves own role acts a c h =
    let was = newest_first c.moves.items in
    ap (λ o. moves_for o (role_of c.role) (chooses c.stage) was a.act a.label) h.own_is
    ∙ ap (λ r. moves_for own r (chooses c.stage) was a.act a.label) h.role_is
    ∙ ap (λ so. moves_for own role so was a.act a.label) (its_choice own role acts c h)
    ∙ ap (λ before. moves_for own role (is_choosing (acts_in acts)) before a.act a.label) h.moves_are

-- a conversation after an act
pub acted : (own : table.Own) (role : table.Role) (acts : List Labelled) (a : Labelled) (c after : Conversation) (made : List table.Move)
    → StandsFor own role acts c → after.own ≡ c.own → after.role ≡ c.role → after.stage ≡ stage_after c.stage a.act
    → newest_first after.moves.items ≡ made ++ newest_first c.moves.items
    → made ≡ moves_for (own_of c.own) (role_of c.role) (chooses c.stage) (newest_first c.moves.items) a.act a.label
    → StandsFor own role (a ∷ acts) after
acted own role acts a c after made h e f g m by =
    let was = newest_first c.moves.items in
    let told : made ≡ moves_for own role (is_choosing (acts_in acts)) (moves_by own role acts) a.act a.label = by ∙ its_moves own role acts a c h in
    record {
      own_is = ap own_of e ∙ h.own_is;
      role_is = ap role_of f ∙ h.role_is;
      stage_is = g ∙ ap (λ s. stage_after s a.act) h.stage_is;
      moves_are = m ∙ ap (λ made. made ++ was) told ∙ ap (λ before. moves_for own role (is_choosing (acts_in acts)) (moves_by own role acts) a.act a.label ++ before) h.moves_are;
    }

pub still_stands : (own : table.Own) (role : table.Role) (acts : List Labelled) (c after : Conversation) → StandsFor own role acts c → after.own ≡ c.own → after.role ≡ c.role → after.stage ≡ c.stage
    → newest_first after.moves.items ≡ newest_first c.moves.items → StandsFor own role acts after
still_stands own role acts c after h e f g m = record {
  own_is = ap own_of e ∙ h.own_is;
  role_is = ap role_of f ∙ h.role_is;
  stage_is = g ∙ h.stage_is;
  moves_are = m ∙ h.moves_are;
}

pub put_one : (moves after : List Move) (made : Move) → after ≡ moves ++ made ∷ [] → newest_first after ≡ if_some (option_map move_of (Some made)) ++ newest_first moves
put_one moves after made e = newest_of after moves made e

pub on_err : {T E : Type 0} (r : Result T E) (P : Type 0) → P → OnErr r P
on_err (Ok x) P p = tt
on_err (Err e) P p = p
