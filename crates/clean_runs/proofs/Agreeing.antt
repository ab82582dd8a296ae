-- Agreement in clean histories, from agreement in their runs.
use Rattle.std.proofs.Common.{◌≡◌, ℕ, List, [], ◌∷◌, ◌++◌, length, Contains, Some, sym, ap, subst, ◌∙◌}
use Rattle.symbolic_runs.specs.Trees.{long_key, password, digest, seal, ticket_key}
use Rattle.symbolic_runs.specs.Forms.{for_client, ticket, tickets, client_message, mail_challenge}
use Rattle.symbolic_runs.specs.Moves.{client, hears}
use Rattle.symbolic_runs.specs.Sessions.{keys, key_and_password}
use Rattle.symbolic_runs.specs.Agreement.{Matches as MatchesInRun, client_matches as by_client, mail_client_matches as by_mail_client, server_name, client_name, SpeakersAreTrue as RunSpeakersAreTrue, IsGrantedTo as IsGrantedInRun}
use Rattle.symbolic_runs.proofs.Servers.{server_agrees}
use Rattle.symbolic_runs.proofs.Matching.{matched}
use Rattle.wire_histories.specs.Histories.{History, reloads_in}
use Rattle.clean_runs.specs.KeyNames.{speakers}
use Rattle.clean_runs.proofs.Bridge.{Case, SessionsGo, run, setting}
use Rattle.clean_runs.specs.Agreement.{Acceptance, IsByTicket, IsGrantedTo, IsMade, IsMatched, client_matches, granted, mail_client_matches, moves_in}
use Rattle.clean_runs.specs.AgreementStatements.{ClientsMatch, ServersAgree, SpeakersAreTrue}
use Rattle.clean_runs.proofs.Gifts.{given_in}
use Rattle.clean_runs.proofs.Grants.{grants_are, made_of, sealer_named, speakers_are, vouches_held}
use Rattle.clean_runs.proofs.Servers.{behind, in_run, is_run, placed_at, playing, shows_out, true_in, under_in, under_out, user_at, user_is}

-- ---- a server's acceptance rests on a grant

rests_on : (c : Case) (sessions : SessionsGo c) (a : Acceptance c.history) (number : ℕ) → IsGrantedInRun (setting c) (run c c.history) (in_run c a) number → IsGrantedTo c.z c.l a number
rests_on c sessions a number g =
    let m = made_of c sessions a.past (behind c a) (placed_at c a) number g.for_the_server g.granted in
    let grant_is : (setting c).grants number ≡ granted m.made = grants_are c a.past (behind c a) (placed_at c a) number m.made in
    let p = playing c a in
    let sealed : server_name (granted m.made).used ≡ Some (c.l.holder a.conv) = sym (ap (λ x. server_name x.used) grant_is) ∙ g.sealed_for ∙ ap Some p.holder_is in
    record {
      under = under_out c a number g.under;
      made = m.made;
      by_its_ticket = subst (IsByTicket c.l a) (sym m.ticket_is) (shows_out c a g.for_the_server g.by_its_ticket);
      sealed_for = sealed;
      named = sealer_named c.z (reloads_in m.made.asked) m.made.read (c.l.label (length m.made.asked)) (c.l.holder a.conv) sealed;
      user = sym (ap (λ x. x.user) grant_is) ∙ g.user ∙ user_is c a;
      chal = sym (ap (λ x. x.chal) grant_is) ∙ g.chal;
    }

pub servers_agree : (c : Case) → SessionsGo c → ServersAgree c.history c.z c.l
servers_agree c sessions a is =
    let g = server_agrees (setting c) (run c c.history) (is_run c sessions) (in_run c a) (true_in c a is) in
    (g.0, rests_on c sessions a g.0 g.1)

-- ---- and has a match

speak_true : (c : Case) (past later : History) → c.history ≡ later ++ past → (number : ℕ) (made : IsMade past c.z c.l number) → SpeakersAreTrue c.history c.z c.l made → RunSpeakersAreTrue (setting c) number
speak_true c past later place number made is name has = is name (subst (λ names. Contains names name) (ap (λ g. g.speakers) (grants_are c past later place number made) ∙ speakers_are c.z (reloads_in made.asked) made.read (c.l.label (length made.asked))) has)

match_out : (c : Case) (sessions : SessionsGo c) (past later : History) (place : c.history ≡ later ++ past) (number : ℕ) (made : IsMade past c.z c.l number) (user : List ℕ) (k : ℕ) → MatchesInRun (setting c) (run c past) number user k → client_name ((setting c).grants number).used ≡ Some ((setting c).holder k) → IsMatched c.history past c.z c.l made user
match_out c sessions past later place number made user k (by_client {sealer} {handed} {cuid} {before} {gave} role used speaks opened stands) named =
    let g = given_in c sessions past later place k gave _ stands in
    let grant_is = grants_are c past later place number made in
    let holder : (setting c).holder k ≡ c.l.holder g.conv = sym (ap (setting c).holder g.number) ∙ g.playing.holder_is in
    let forms : moves_in c.l client g.conv g.gave ≡ hears (tickets (seal (long_key (c.l.holder g.conv)) (ticket for_client (granted made).chal cuid user (ticket_key number))) handed) ∷ before =
    ap (λ r. moves_in c.l r g.conv g.gave) (sym role) ∙ g.moves_so ∙ opened
    ∙ ap (λ h. hears (tickets (seal (long_key h) (ticket for_client ((setting c).grants number).chal cuid user (ticket_key number))) handed) ∷ before) holder
    ∙ ap (λ x. hears (tickets (seal (long_key (c.l.holder g.conv)) (ticket for_client x.chal cuid user (ticket_key number))) handed) ∷ before) grant_is in
    record {
      conv = g.conv;
      matches = client_matches
          (g.plays_so ∙ ap Some role)
          (sym (ap (λ x. x.used) grant_is) ∙ used ∙ ap (λ h. keys sealer (Some h)) holder)
          (subst (λ h. Contains (speakers c.z (reloads_in made.asked) made.read.uid) h) holder (subst (λ names. Contains names ((setting c).holder k)) (ap (λ x. x.speakers) grant_is ∙ speakers_are c.z (reloads_in made.asked) made.read (c.l.label (length made.asked))) speaks))
          forms
          g.happens
          (g.labels ∙ ap (λ x. client_message handed (ticket_key number) x.chal ∷ []) grant_is);
      holder = sym (ap (λ x. client_name x.used) grant_is) ∙ named ∙ ap Some holder;
    }
match_out c sessions past later place number made user k (by_mail_client {kind} {sealer} {session} {first} {granted = given} {gave} role used vouched stands) named =
    let g = given_in c sessions past later place k gave _ stands in
    let grant_is = grants_are c past later place number made in
    let holder : (setting c).holder k ≡ c.l.holder g.conv = sym (ap (setting c).holder g.number) ∙ g.playing.holder_is in
    let v = vouches_held c sessions past later place number made session first kind given vouched in
    record {
      conv = g.conv;
      matches = mail_client_matches
          (g.plays_so ∙ ap Some role)
          (sym (ap (λ x. x.used) grant_is) ∙ used ∙ ap (key_and_password sealer) holder)
          v.0
          v.1
          g.happens
          (g.labels ∙ ap (λ h. digest kind (password h) (mail_challenge c.z.dom first) ∷ []) holder);
      holder = sym (ap (λ x. client_name x.used) grant_is) ∙ named ∙ ap Some holder;
    }

pub clients_match : (c : Case) → SessionsGo c → ClientsMatch c.history c.z c.l
clients_match c sessions a is number g speak =
    let m = matched (setting c) (run c c.history) (is_run c sessions) (in_run c a) (true_in c a is) number (under_in c a number g.under) (speak_true c a.past (behind c a) (placed_at c a) number g.made speak) in
    let out = match_out c sessions a.past (behind c a) (placed_at c a) number g.made (user_at c a) m.conv m.matches m.holder in
    subst (IsMatched c.history a.past c.z c.l g.made) (user_is c a) out
