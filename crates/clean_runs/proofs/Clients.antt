-- A p9sk1 client's acceptance in a history is one in its run: a server answered it, and it is under a grant for its holder.
use Rattle.std.proofs.Common.{◌≡◌, ℕ, List, [], ◌∷◌, ◌++◌, length, Some, refl, sym, ap, ◌∙◌}
use Rattle.symbolic_runs.specs.Trees.{long_key, nonce, seal, ticket_key}
use Rattle.wire_histories.specs.declared.step.Step.TheVariants.{Accept}
use Rattle.symbolic_runs.specs.Forms.{for_client, pair, server_message, ticket, tickets}
use Rattle.symbolic_runs.specs.Moves.{accepts, client, gives, hears, takes}
use Rattle.symbolic_runs.specs.Runs.{moves, moves_of, own_of}
use Rattle.symbolic_runs.specs.Secrets.{is_compromised}
use Rattle.symbolic_runs.specs.Sessions.{keys}
use Rattle.symbolic_runs.specs.Agreement.{ClientAcceptance as RunClientAcceptance, IsClientUnder as IsClientUnderInRun, server_name}
use Rattle.symbolic_runs.proofs.Clients.{client_answered, client_hosted}
use Rattle.wire_histories.specs.Histories.{History, reloads_in}
use Rattle.clean_runs.specs.Labels.{labelled}
use Rattle.clean_runs.specs.Runs.{accepted_field, moves_by, number_of}
use Rattle.clean_runs.proofs.Bridge.{Case, SessionsGo, one_more, run, setting}
use Rattle.clean_runs.specs.Agreement.{ClientAcceptance, IsClientUnder, granted, moves_in}
use Rattle.clean_runs.specs.AgreementStatements.{ClientsAreAnswered, ClientsAreHosts}
use Rattle.clean_runs.proofs.Gifts.{given_in}
use Rattle.clean_runs.proofs.Grants.{grants_are, host_named, made_of, tickets_made}
use Rattle.clean_runs.proofs.Places.{Plays, moves_are, plays_in, stands_at}
use Rattle.clean_runs.proofs.Servers.{is_run}

abbrev behind : (c : Case) → ClientAcceptance c.history → History
behind c a = a.happens.later ++ Accept a.conv a.cuid a.suid ∷ []

placed_at : (c : Case) (a : ClientAcceptance c.history) → c.history ≡ behind c a ++ a.past
placed_at c a = one_more c a.happens.later a.past (Accept a.conv a.cuid a.suid) a.happens.place

playing : (c : Case) (a : ClientAcceptance c.history) → Plays c a.conv client a.past
playing c a = plays_in c a.conv client a.past (behind c a) (placed_at c a) a.by_a_client

abbrev number_at : (c : Case) → ClientAcceptance c.history → ℕ
number_at c a = number_of a.conv a.past

abbrev user_at : (c : Case) → ClientAcceptance c.history → List ℕ
user_at c a = accepted_field ((setting c).role (number_at c a)) (moves_by (own_of (setting c) (number_at c a)) ((setting c).role (number_at c a)) (labelled c.l a.conv a.past))

abbrev in_run : (c : Case) (a : ClientAcceptance c.history) → RunClientAcceptance (setting c) (run c c.history)
in_run c a = record {
  conv = number_at c a;
  user = user_at c a;
  past = run c a.past;
  stands = stands_at c c.history a.past (Accept a.conv a.cuid a.suid) (moves (number_at c a) (accepts (user_at c a))) a.happens refl;
  by_a_client = (playing c a).role_is;
}

-- what it did, in the run
moves_so : (c : Case) (a : ClientAcceptance c.history) → moves_of (number_at c a) (run c a.past) ≡ moves_in c.l client a.conv a.past
moves_so c a = moves_are c a.conv client a.past (behind c a) (placed_at c a) (playing c a)

under_in : (c : Case) (a : ClientAcceptance c.history) (number : ℕ) → IsClientUnder c.l a number → IsClientUnderInRun (setting c) (run c c.history) (in_run c a) number
under_in c a number u = record {
  proof = u.proof;
  gift = u.gift;
  chal = u.chal;
  cuid = u.cuid;
  suid = u.suid;
  handed = u.handed;
  before = u.before;
  opened = moves_so c a ∙ u.opened ∙ ap (λ h. takes u.proof ∷ gives u.gift ∷ hears (tickets (seal (long_key h) (ticket for_client u.chal u.cuid u.suid (ticket_key number))) u.handed) ∷ u.before) (sym (playing c a).holder_is);
}

under_out : (c : Case) (a : ClientAcceptance c.history) (number : ℕ) → IsClientUnderInRun (setting c) (run c c.history) (in_run c a) number → IsClientUnder c.l a number
under_out c a number u = record {
  proof = u.proof;
  gift = u.gift;
  chal = u.chal;
  cuid = u.cuid;
  suid = u.suid;
  handed = u.handed;
  before = u.before;
  opened = sym (moves_so c a) ∙ u.opened ∙ ap (λ h. takes u.proof ∷ gives u.gift ∷ hears (tickets (seal (long_key h) (ticket for_client u.chal u.cuid u.suid (ticket_key number))) u.handed) ∷ u.before) (playing c a).holder_is;
}

pub clients_are_answered : (c : Case) → SessionsGo c → ClientsAreAnswered c.history c.z c.l
clients_are_answered c sessions a number under unexposed =
    let r = client_answered (setting c) (run c c.history) (is_run c sessions) (in_run c a) number (under_in c a number under) unexposed in
    let m = made_of c sessions a.past (behind c a) (placed_at c a) number r.for_the_server r.granted in
    let grant_is = grants_are c a.past (behind c a) (placed_at c a) number m.made in
    let g = given_in c sessions a.past (behind c a) (placed_at c a) r.conv r.gave (server_message (ticket_key number) (nonce (number_at c a))) r.answered in
    let holder : (setting c).holder r.conv ≡ c.l.holder g.conv = sym (ap (setting c).holder g.number) ∙ g.playing.holder_is in
    record {
      made = m.made;
      conv = g.conv;
      gave = g.gave;
      by_a_server = g.plays_so ∙ ap Some r.by_a_server;
      sealed_for = sym (ap (λ x. server_name x.used) grant_is) ∙ r.sealed_for ∙ ap Some holder;
      user = r.user;
      proof = r.proof;
      before = r.before;
      opened = ap (λ role. moves_in c.l role g.conv g.gave) (sym r.by_a_server) ∙ g.moves_so ∙ r.opened ∙ ap (λ t. accepts r.user ∷ takes (pair t r.proof) ∷ r.before) (sym m.ticket_is);
      message = g.message;
      b = g.b;
      happens = g.happens;
      answered = g.labels;
    }

pub clients_are_hosts : (c : Case) → SessionsGo c → ClientsAreHosts c.history c.z c.l
clients_are_hosts c sessions a is =
    let p = playing c a in
    let h = client_hosted (setting c) (run c c.history) (is_run c sessions) (in_run c a) (ap (is_compromised (setting c)) p.holder_is ∙ is) in
    let number = h.0 in
    let m = tickets_made c sessions a.past (behind c a) (placed_at c a) number h.1.session h.1.past h.1.granted in
    let grant_is = grants_are c a.past (behind c a) (placed_at c a) number m.made in
    let used : (granted m.made).used ≡ keys h.1.sealer (Some (c.l.holder a.conv)) = sym (ap (λ x. x.used) grant_is) ∙ h.1.used ∙ ap (λ x. keys h.1.sealer (Some x)) p.holder_is in (
      number,
      record {
        under = under_out c a number h.1.under;
        made = m.made;
        sealer = h.1.sealer;
        used = used;
        host = host_named c.z (reloads_in m.made.asked) m.made.read (c.l.label (length m.made.asked)) h.1.sealer (c.l.holder a.conv) used;
      },
    )
