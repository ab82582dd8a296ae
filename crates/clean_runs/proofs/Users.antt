-- A server that accepts names the user whose field it accepted.
use Rattle.std.proofs.Common.{◌≡◌, [], ◌∷◌, ◌++◌, length, true, sym, ap, subst, ◌∙◌}
use Rattle.wire_histories.specs.declared.step.Step.{Step}
use Rattle.wire_histories.specs.declared.step.Step.TheVariants.{Accept}
use Rattle.symbolic_runs.specs.Forms.{name_text}
use Rattle.symbolic_runs.specs.Moves.{Role, Own}
use Rattle.symbolic_runs.specs.Runs.{own_of}
use Rattle.symbolic_runs.specs.Agreement.{is_server}
use Rattle.wire_histories.specs.Histories.{accepted}
use Rattle.clean_runs.specs.Labels.{labelled}
use Rattle.clean_runs.specs.Runs.{accepted_field, acts_in, is_choosing, moves_by, moves_for, number_of}
use Rattle.clean_runs.proofs.Bridge.{Case, acts_at, one_more, setting}
use Rattle.clean_runs.proofs.Follows.{names_user}
use Rattle.clean_runs.proofs.Numbers.{number_is}
use Rattle.clean_runs.proofs.Steps.{accept_does}
use Rattle.clean_runs.specs.Agreement.{own_in}
use Rattle.clean_runs.specs.AgreementStatements.{ServersNameTheUser}
use Rattle.clean_runs.proofs.Places.{own_is, plays_in}

pub servers_name_the_user : (c : Case) → ServersNameTheUser c.history c.l
servers_name_the_user c a =
    let step : Step = Accept a.conv a.cuid a.suid in
    let at = acts_at c a.happens.later a.past step a.conv (accepted a.cuid a.suid) (accept_does a.conv a.cuid a.suid) a.happens.place in
    let p = plays_in c a.conv a.role a.past (a.happens.later ++ step ∷ []) (one_more c a.happens.later a.past step a.happens.place) a.plays in
    let n : number_of a.conv a.past ≡ at.number = number_is a.past a.conv at.number at.started in
    let role : (setting c).role at.number ≡ a.role = ap (setting c).role (sym n) ∙ p.role_is in
    let own : own_of (setting c) at.number ≡ own_in c.l a.conv a.past = ap (own_of (setting c)) (sym n) ∙ own_is c a.conv a.past p.holder_is in
    let acts = labelled c.l a.conv a.past in
    let says : is_server ((setting c).role at.number) ≡ true → name_text (accepted_field ((setting c).role at.number) (moves_by (own_of (setting c) at.number) ((setting c).role at.number) acts)) ≡ a.suid =
    names_user c.atoms (own_of (setting c) at.number) ((setting c).role at.number) (moves_by (own_of (setting c) at.number) ((setting c).role at.number) acts) (is_choosing (acts_in acts)) (accepted a.cuid a.suid) (c.l.label (length a.past)) (moves_for (own_of (setting c) at.number) ((setting c).role at.number) (is_choosing (acts_in acts)) (moves_by (own_of (setting c) at.number) ((setting c).role at.number) acts) (accepted a.cuid a.suid) (c.l.label (length a.past))) at.follows in
    let of_role : is_server a.role ≡ true → name_text (accepted_field a.role (moves_by (own_of (setting c) at.number) a.role acts)) ≡ a.suid =
    subst (λ (r : Role). is_server r ≡ true → name_text (accepted_field r (moves_by (own_of (setting c) at.number) r acts)) ≡ a.suid) role says in
    subst (λ (o : Own). name_text (accepted_field a.role (moves_by o a.role acts)) ≡ a.suid) own (of_role a.by_a_server)
