-- A server's acceptance in a history is one in its run, by the same ticket and under the same grants.
use Rattle.std.proofs.Common.{◌≡◌, ℕ, List, [], ◌∷◌, ◌++◌, false, refl, sym, ap, subst, ◌∙◌}
use Rattle.symbolic_runs.specs.Trees.{Tree}
use Rattle.wire_histories.specs.declared.step.Step.TheVariants.{Accept}
use Rattle.symbolic_runs.specs.Moves.{accepts}
use Rattle.symbolic_runs.specs.Runs.{IsRun, moves, moves_of, own_of}
use Rattle.symbolic_runs.specs.Secrets.{is_compromised}
use Rattle.symbolic_runs.specs.Agreement.{Acceptance as RunAcceptance, IsByTicket as IsByRunTicket, IsUnder as IsUnderInRun, Shows, is_server}
use Rattle.wire_histories.specs.Histories.{History}
use Rattle.clean_runs.specs.Labels.{labelled}
use Rattle.clean_runs.specs.Runs.{accepted_field, moves_by, number_of}
use Rattle.clean_runs.proofs.Bridge.{Case, SessionsGo, one_more, run, runs_on, setting}
use Rattle.clean_runs.specs.Agreement.{Acceptance, IsByTicket, IsUnder, moves_in, user_of}
use Rattle.clean_runs.specs.AgreementStatements.{IsTrueServer}
use Rattle.clean_runs.proofs.Places.{Plays, moves_are, own_is, plays_in, stands_at}

-- the run of the whole history
pub is_run : (c : Case) → SessionsGo c → IsRun (setting c) (run c c.history)
is_run c sessions = (runs_on c sessions c.history [] refl).0

-- where a conversation stands at an acceptance
abbrev pub behind : (c : Case) → Acceptance c.history → History
behind c a = a.happens.later ++ Accept a.conv a.cuid a.suid ∷ []

pub placed_at : (c : Case) (a : Acceptance c.history) → c.history ≡ behind c a ++ a.past
placed_at c a = one_more c a.happens.later a.past (Accept a.conv a.cuid a.suid) a.happens.place

pub playing : (c : Case) (a : Acceptance c.history) → Plays c a.conv a.role a.past
playing c a = plays_in c a.conv a.role a.past (behind c a) (placed_at c a) a.plays

abbrev pub number_at : (c : Case) → Acceptance c.history → ℕ
number_at c a = number_of a.conv a.past

abbrev pub user_at : (c : Case) → Acceptance c.history → List ℕ
user_at c a = accepted_field ((setting c).role (number_at c a)) (moves_by (own_of (setting c) (number_at c a)) ((setting c).role (number_at c a)) (labelled c.l a.conv a.past))

abbrev pub in_run : (c : Case) (a : Acceptance c.history) → RunAcceptance (setting c) (run c c.history)
in_run c a = record {
  conv = number_at c a;
  user = user_at c a;
  past = run c a.past;
  stands = stands_at c c.history a.past (Accept a.conv a.cuid a.suid) (moves (number_at c a) (accepts (user_at c a))) a.happens refl;
  by_a_server = ap is_server (playing c a).role_is ∙ a.by_a_server;
}

pub user_is : (c : Case) (a : Acceptance c.history) → user_at c a ≡ user_of c.l a
user_is c a =
    let p = playing c a in
    ap (λ own. accepted_field ((setting c).role (number_at c a)) (moves_by own ((setting c).role (number_at c a)) (labelled c.l a.conv a.past))) (own_is c a.conv a.past p.holder_is)
    ∙ ap (λ role. accepted_field role (moves_in c.l role a.conv a.past)) p.role_is

-- a server that is true is one in the run
pub true_in : (c : Case) (a : Acceptance c.history) → IsTrueServer c.history c.z c.l a → is_compromised (setting c) ((setting c).holder (number_at c a)) ≡ false
true_in c a is = ap (is_compromised (setting c)) (playing c a).holder_is ∙ is

-- tickets and grants
pub shows_in : (c : Case) (a : Acceptance c.history) (t : Tree) → IsByTicket c.l a t → IsByRunTicket (setting c) (run c c.history) (in_run c a) t
shows_in c a t shows =
    let p = playing c a in
    subst (λ role. Shows role (moves_of (number_at c a) (run c a.past)) t) (sym p.role_is)
    (subst (λ ms. Shows a.role ms t) (sym (moves_are c a.conv a.role a.past (behind c a) (placed_at c a) p)) shows)

pub shows_out : (c : Case) (a : Acceptance c.history) (t : Tree) → IsByRunTicket (setting c) (run c c.history) (in_run c a) t → IsByTicket c.l a t
shows_out c a t shows =
    let p = playing c a in
    subst (λ ms. Shows a.role ms t) (moves_are c a.conv a.role a.past (behind c a) (placed_at c a) p)
    (subst (λ role. Shows role (moves_of (number_at c a) (run c a.past)) t) p.role_is shows)

pub under_in : (c : Case) (a : Acceptance c.history) (number : ℕ) → IsUnder c.l a number → IsUnderInRun (setting c) (run c c.history) (in_run c a) number
under_in c a number u = record { key = u.key; chal = u.chal; cuid = u.cuid; suid = u.suid; by_ticket = shows_in c a _ u.by_ticket }

pub under_out : (c : Case) (a : Acceptance c.history) (number : ℕ) → IsUnderInRun (setting c) (run c c.history) (in_run c a) number → IsUnder c.l a number
under_out c a number u = record { key = u.key; chal = u.chal; cuid = u.cuid; suid = u.suid; by_ticket = shows_out c a _ u.by_ticket }
