-- A round of a script that is made of a number, line by line: none of it is refused.
use Rattle.driven_agents.proofs.HandedLaws.{bytes_of}
use Rattle.std.proofs.Common.{◌≡◌, ℕ, suc, ◌+◌, ◌≤◌, ◌<◌, List, [], ◌∷◌, ◌++◌, append-nil, codes, length, Bool, true, false, cond, not, Some, None, refl, sym, ap, subst, ◌∙◌, arith}
use Rattle.std.specs.Prelude.{filter, find, option_map, slice_get}
use Rattle.std.specs.Fmt.{decimal}
use Rattle.std.specs.Str.{bytes_eq}
use Rattle.std.specs.Result.{result_unwrap_or}
use Rattle.std.proofs.lemmas.Bool.{or_from}
use Rattle.std.proofs.lemmas.List.{length-append}
use Rattle.hex.specs.Hex.{decode_of}
use Rattle.sealing.specs.Request.{request_text}
use Rattle.key_lists.specs.Lists.{KeyList}
use Rattle.talks.specs.Answers.{move_answer}
use Rattle.talks.specs.Protocols.{answers}
use Rattle.roles.specs.Talks.{get, give}
use Rattle.talks.specs.declared.answer.RpcAnswer.{RpcAnswer}
use Rattle.talks.specs.declared.answer.RpcAnswer.TheVariants as a
use Rattle.talks.specs.Requests as rpc
use Rattle.talks.specs.Standings.{Begun, Kept, OnServer, Resting, Standing, Waiting, untouched}
use Rattle.agent_history.specs.Conversations.{fits}
use Rattle.auth_program.specs.declared.cause.ScriptCause.TheVariants.{UnknownNode}
use Rattle.complete_logins.proofs.LoginLaws.{both, proved, question, sent, shown}
use Rattle.world_scripts.specs.Lines.{ScriptLine, is_formed}
use Rattle.world_scripts.specs.Lines as l
use Rattle.world_scripts.specs.Pieces.{Piece, Whole, Spelled}
use Rattle.world_scripts.specs.declared.round.Drawn.{Drawn}
use Rattle.world_scripts.specs.declared.round.Kind.{Kind}
use Rattle.world_scripts.specs.declared.round.Kind.TheVariants.{Honest, Replayed, Unanswered, Blank}
use Rattle.world_scripts.specs.Rounds as rounds
use Rattle.world_scripts.specs.Rounds.{answering, challenging, client_of, client_tuple, ending, middle, name, proof_of, recorded, round_lines, server_of, server_tuple, session_of, starting, zeros}
use Rattle.world_history.specs.Acts.{Act, Talk, Opened, Started, Got, Given, Answered, Unanswered, Asked, Closed, has_name}
use Rattle.world_history.specs.Scripts.{act_of, call_now, call_or, is_unfit, misnamed, on_conv, on_node, spelled}
use Rattle.world_history.specs.Talking.{Asks, gets, gives, starts}
use Rattle.world_history.specs.Talking as talking
use Rattle.world_history.specs.Turns.{asks}
use Rattle.world_history.specs.Worlds.{history, messages, outstanding}
use Rattle.world_promises.proofs.DrivenSeats.{Rests}
use Rattle.world_promises.proofs.DrivenTurns.{AsksServer, Sits, carried_among, told_body, told_rests}
use Rattle.world_promises.proofs.MadeLines.{IsAt, IsPlain, Net, OnTurn, agent_on, answered_fits, asked_on, closed_fits, closed_on, fit_line, given_fits, got_fits, heard_on, last_is, less_room, missed_on, on_given, on_got, on_known, on_started, opened_on, plain_given, plain_got, plain_started, served_on, started_fits, stays_there, unanswered_fits, whole_is}
use Rattle.world_promises.proofs.MadeRounds.{AllFormed, Between, Earlier, IsBefore, Passes, client_text, one, other_round, request_kind, server_text, short_text, told, zeros_short}
use Rattle.world_promises.proofs.RecordLaws.{got_out, move_out, no_server_fits, no_server_out, ok_fits, ok_out, out_in}
use Rattle.world_promises.proofs.RecordLaws as record_laws
use Rattle.world_promises.proofs.RunLemmas.{itself}
use Rattle.world_promises.proofs.SkTalks.{AreWords, Words, ann_entry, asks_client, both_long, c_3, c_5, client_at, given_server, got_client, got_server, granted, hears_client, made_login, misses_client, needs_tickets, one_key, other_server, proved_client, proved_long, proves_server, question_long, s_1, s_3, s_4, sent_long, server_at, shown_long, shown_server, shows_client, srv_entry, start_client, start_server, stood, up}

abbrev pub drawn_of : Words → Drawn
drawn_of w = record { client = w.client; server = w.server; first = w.first; second = w.second; third = w.third }

module _ (round before first : ℕ) (w : Words) (are : AreWords w) (few : round < 1000000) (small : first < 1000000) (small_before : before < 1000000) (room : ℕ) (rest : List ScriptLine) (given_before : List (List ℕ)) (new : IsBefore round given_before) (ka kb : ℕ) where
  abbrev c : List ℕ
  c = client_of round

  abbrev s : List ℕ
  s = server_of round

  abbrev node_a : List ℕ
  node_a = codes "a"

  abbrev node_b : List ℕ
  node_b = codes "b"

  abbrev tc : Talk
  tc = record { conv = c; node = node_a; fid = 2 }

  abbrev ts : Talk
  ts = record { conv = s; node = node_b; fid = 2 }

  abbrev open_both : List Talk
  open_both = tc ∷ ts ∷ []

  abbrev given : List (List ℕ)
  given = s ∷ c ∷ given_before

  abbrev keys_a : KeyList
  keys_a = one_key ann_entry

  abbrev keys_b : KeyList
  keys_b = one_key srv_entry

  abbrev sent_m : List ℕ
  sent_m = sent (made_login w)

  abbrev asked_m : List ℕ
  asked_m = request_text (question (made_login w))

  abbrev granted_m : List ℕ
  granted_m = 4 ∷ both (made_login w)

  abbrev shown_m : List ℕ
  shown_m = shown (made_login w)

  abbrev proved_m : List ℕ
  proved_m = proved (made_login w)

  at_c : (acts : List Act) (m : List (List ℕ)) (u left : ℕ) → Net acts m open_both given u left → IsAt acts c node_a
  at_c acts m u left net = record {
    talk = ap (find (λ (t : Talk). bytes_eq t.conv c)) net.talking ∙ ap (λ b. cond b (Some tc) (cond (bytes_eq s c) (Some ts) None)) (itself c);
    agent = ap (λ n. n ∷ node_a) (net.kept node_a);
  }

  at_s : (acts : List Act) (m : List (List ℕ)) (u left : ℕ) → Net acts m open_both given u left → IsAt acts s node_b
  at_s acts m u left net = record {
    talk = ap (find (λ (t : Talk). bytes_eq t.conv s)) net.talking ∙ ap (λ b. cond b (Some ts) None) (itself s);
    agent = ap (λ n. n ∷ node_b) (net.kept node_b);
  }

  at_alone : (acts : List Act) (m : List (List ℕ)) (u left : ℕ) → Net acts m (ts ∷ []) given u left → IsAt acts s node_b
  at_alone acts m u left net = record {
    talk = ap (find (λ (t : Talk). bytes_eq t.conv s)) net.talking ∙ ap (λ b. cond b (Some ts) None) (itself s);
    agent = ap (λ n. n ∷ node_b) (net.kept node_b);
  }

  -- both conversations are open, and rest
  record Pair (acts : List Act) (m : List (List ℕ)) (u left : ℕ) (sa sb : Standing) : Type 0 where
    net : Net acts m open_both given u left
    a : Sits ka keys_a sa (history acts (agent_on node_a))
    b : Sits kb keys_b sb (history acts (agent_on node_b))

  c_step : (acts : List Act) (m : List (List ℕ)) (u left : ℕ) (sa sb : Standing) (said : List ScriptLine) → Pair acts m u (suc left) sa sb → sa.phase ≡ Resting → (line : ScriptLine) (act : Act) (what : Asks) → is_formed line ≡ true → OnTurn acts act c (λ fid. asks c fid what) → IsPlain acts act → misnamed acts line ≡ on_conv acts c → act_of acts (messages acts) line ≡ Some act → is_unfit acts act ≡ false
      → length (talking.request_text what) ≤ 4096 → (now : Standing) (answer : RpcAnswer) (fit : Bool) (later : List (List ℕ)) → carried_among keys_a sa.begun what ≡ now → now.phase ≡ Kept answer → fits 8192 answer ≡ fit → m ++ out_in (told_body fit answer) ≡ later
      → (Pair (act ∷ acts) later u left (told_rests fit now) sb → Passes (act ∷ acts) said) → Passes acts (line ∷ said)
  c_step acts m u left sa sb said p rests line act what formed on plain names acts_so fit_so short now answer fit later is kept fits_so more next =
      told acts m open_both given u left p.net c node_a node_b (at_c acts m u (suc left) p.net) refl (Sits kb keys_b sb) p.b ka keys_a sa p.a rests said
      line act what formed on plain names acts_so fit_so short now answer fit later is kept fits_so more (λ net a b. next (record { net = net; a = a; b = b }))

  s_step : (acts : List Act) (m : List (List ℕ)) (u left : ℕ) (sa sb : Standing) (said : List ScriptLine) → Pair acts m u (suc left) sa sb → sb.phase ≡ Resting → (line : ScriptLine) (act : Act) (what : Asks) → is_formed line ≡ true → OnTurn acts act s (λ fid. asks s fid what) → IsPlain acts act → misnamed acts line ≡ on_conv acts s → act_of acts (messages acts) line ≡ Some act → is_unfit acts act ≡ false
      → length (talking.request_text what) ≤ 4096 → (now : Standing) (answer : RpcAnswer) (fit : Bool) (later : List (List ℕ)) → carried_among keys_b sb.begun what ≡ now → now.phase ≡ Kept answer → fits 8192 answer ≡ fit → m ++ out_in (told_body fit answer) ≡ later
      → (Pair (act ∷ acts) later u left sa (told_rests fit now) → Passes (act ∷ acts) said) → Passes acts (line ∷ said)
  s_step acts m u left sa sb said p rests line act what formed on plain names acts_so fit_so short now answer fit later is kept fits_so more next =
      told acts m open_both given u left p.net s node_b node_a (at_s acts m u (suc left) p.net) refl (Sits ka keys_a sa) p.a kb keys_b sb p.b rests said
      line act what formed on plain names acts_so fit_so short now answer fit later is kept fits_so more (λ net b a. next (record { net = net; a = a; b = b }))

  -- a message is got, and given
  c_got : (acts : List Act) (m : List (List ℕ)) (u left : ℕ) (sa sb : Standing) (said : List ScriptLine) (b : Begun) (bytes : List ℕ) → Pair acts m u (suc left) sa sb → sa.phase ≡ Resting → is_formed (l.Read c) ≡ true → carried_among keys_a sa.begun gets ≡ up w are b false (a.Got bytes) → length bytes ≤ 4000
      → (Pair (Got c ∷ acts) (m ++ bytes ∷ []) u left (told_rests true (up w are b false (a.Got bytes))) sb → Passes (Got c ∷ acts) said) → Passes acts (l.Read c ∷ said)
  c_got acts m u left sa sb said b bytes p rests formed is short next =
      c_step acts m u left sa sb said p rests (l.Read c) (Got c) gets formed (on_got acts c) (plain_got acts c) refl refl (got_fits acts c) (omega arith) (up w are b false (a.Got bytes)) (a.Got bytes) true (m ++ bytes ∷ []) is refl (record_laws.got_fits bytes (omega (arith, short))) (ap (λ xs. m ++ xs) (got_out bytes)) next

  s_got : (acts : List Act) (m : List (List ℕ)) (u left : ℕ) (sa sb : Standing) (said : List ScriptLine) (b : Begun) (bytes : List ℕ) → Pair acts m u (suc left) sa sb → sb.phase ≡ Resting → is_formed (l.Read s) ≡ true → carried_among keys_b sb.begun gets ≡ up w are b false (a.Got bytes) → length bytes ≤ 4000
      → (Pair (Got s ∷ acts) (m ++ bytes ∷ []) u left sa (told_rests true (up w are b false (a.Got bytes))) → Passes (Got s ∷ acts) said) → Passes acts (l.Read s ∷ said)
  s_got acts m u left sa sb said b bytes p rests formed is short next =
      s_step acts m u left sa sb said p rests (l.Read s) (Got s) gets formed (on_got acts s) (plain_got acts s) refl refl (got_fits acts s) (omega arith) (up w are b false (a.Got bytes)) (a.Got bytes) true (m ++ bytes ∷ []) is refl (record_laws.got_fits bytes (omega (arith, short))) (ap (λ xs. m ++ xs) (got_out bytes)) next

  spelled_as : (acts : List Act) (m : List (List ℕ)) (u left : ℕ) (pieces : List Piece) (bytes : List ℕ) → Net acts m open_both given u left → spelled m pieces ≡ Some bytes → spelled (messages acts) pieces ≡ Some bytes
  spelled_as acts m u left pieces bytes net is = ap (λ xs. spelled xs pieces) net.recorded ∙ is

  -- whatever it is answered, it is no message
  s_given : (acts : List Act) (m : List (List ℕ)) (u left : ℕ) (sa sb : Standing) (said : List ScriptLine) (pieces : List Piece) (b : Begun) (bytes : List ℕ) (answer : RpcAnswer) (fit : Bool) → Pair acts m u (suc left) sa sb → sb.phase ≡ Resting → is_formed (l.Write s pieces) ≡ true → spelled m pieces ≡ Some bytes → length bytes ≤ 4000
      → carried_among keys_b sb.begun (gives bytes) ≡ up w are b false answer → fits 8192 answer ≡ fit → out_in (told_body fit answer) ≡ []
      → (Pair (Given s bytes ∷ acts) m u left sa (told_rests fit (up w are b false answer)) → Passes (Given s bytes ∷ acts) said) → Passes acts (l.Write s pieces ∷ said)
  s_given acts m u left sa sb said pieces b bytes answer fit p rests formed spell short is fit_so none next =
      s_step acts m u left sa sb said p rests (l.Write s pieces) (Given s bytes) (gives bytes) formed (on_given acts s bytes) (plain_given acts s bytes) refl (ap (option_map (λ x. Given s x)) (spelled_as acts m u (suc left) pieces bytes p.net spell)) (given_fits acts s bytes short) (short_text bytes short)
      (up w are b false answer) answer fit m is refl fit_so (ap (λ xs. m ++ xs) none ∙ append-nil m) next

  c_given : (acts : List Act) (m : List (List ℕ)) (u left : ℕ) (sa sb : Standing) (said : List ScriptLine) (pieces : List Piece) (b : Begun) (bytes : List ℕ) (answer : RpcAnswer) (fit : Bool) → Pair acts m u (suc left) sa sb → sa.phase ≡ Resting → is_formed (l.Write c pieces) ≡ true → spelled m pieces ≡ Some bytes → length bytes ≤ 4000
      → carried_among keys_a sa.begun (gives bytes) ≡ up w are b false answer → fits 8192 answer ≡ fit → out_in (told_body fit answer) ≡ []
      → (Pair (Given c bytes ∷ acts) m u left (told_rests fit (up w are b false answer)) sb → Passes (Given c bytes ∷ acts) said) → Passes acts (l.Write c pieces ∷ said)
  c_given acts m u left sa sb said pieces b bytes answer fit p rests formed spell short is fit_so none next =
      c_step acts m u left sa sb said p rests (l.Write c pieces) (Given c bytes) (gives bytes) formed (on_given acts c bytes) (plain_given acts c bytes) refl (ap (option_map (λ x. Given c x)) (spelled_as acts m u (suc left) pieces bytes p.net spell)) (given_fits acts c bytes short) (short_text bytes short)
      (up w are b false answer) answer fit m is refl fit_so (ap (λ xs. m ++ xs) none ∙ append-nil m) next

  -- ---- the end

  left_alone : filter (λ (t : Talk). not (bytes_eq t.conv c)) open_both ≡ ts ∷ []
  left_alone = ap (λ b. cond (not b) open_both (ts ∷ [])) (itself c)

  none_left : filter (λ (t : Talk). not (bytes_eq t.conv s)) (ts ∷ []) ≡ []
  none_left = ap (λ b. cond (not b) (ts ∷ []) []) (itself s)

  later_new : IsBefore (round + 1) given
  later_new letter later from below =
      or_from (bytes_eq s (name letter later)) (has_name (name letter later) (c ∷ given_before)) (other_round letter 115 round later (omega (arith, from)) below)
      (or_from (bytes_eq c (name letter later)) (has_name (name letter later) given_before) (other_round letter 99 round later (omega (arith, from)) below) (new letter later (omega (arith, from)) below))

  module _ (next : ℕ) (go_on : (acts : List Act) → Between (round + 1) first next acts room → Passes acts rest) where
    ends : (acts : List Act) (m : List (List ℕ)) (u left : ℕ) (sa sb : Standing) → Pair acts m u (suc (suc left)) sa sb → u ≤ round + 1 → room ≤ left → length m ≡ next → (rounds.kind_of (round + 1) ≡ Replayed → Earlier m (proof_of first)) → AllFormed (ending round ++ rest) → Passes acts (ending round ++ rest)
    ends acts m u left sa sb p asked enough long earlier f =
        let t = closed_on acts m open_both given u (suc left) p.net c node_a (at_c acts m u (suc (suc left)) p.net) ka keys_a sa p.a in
        one acts (l.Close c) (Closed c) (l.Close s ∷ rest) f.0 (fit_line acts (l.Close c) (Closed c) (on_known acts c tc (at_c acts m u (suc (suc left)) p.net).talk) refl (closed_fits acts c)) (λ may.
        let one_less = subst (λ o. Net (Closed c ∷ acts) m o given u (suc left)) left_alone (t.behind may) in
        let still = subst (Sits kb keys_b sb) (sym (t.others (agent_on node_b) refl)) p.b in
        let t2 = closed_on (Closed c ∷ acts) m (ts ∷ []) given u left one_less s node_b (at_alone (Closed c ∷ acts) m u (suc left) one_less) kb keys_b sb still in
        one (Closed c ∷ acts) (l.Close s) (Closed s) rest f.1.0 (fit_line (Closed c ∷ acts) (l.Close s) (Closed s) (on_known (Closed c ∷ acts) s ts (at_alone (Closed c ∷ acts) m u (suc left) one_less).talk) refl (closed_fits (Closed c ∷ acts) s)) (λ may2.
        go_on (Closed s ∷ Closed c ∷ acts) (record {
          m = m;
          given = given;
          net = less_room (Closed s ∷ Closed c ∷ acts) m [] given u (round + 1) left room (subst (λ o. Net (Closed s ∷ Closed c ∷ acts) m o given u left) none_left (t2.behind may2)) asked enough;
          new = later_new;
          long = long;
          ka = ka + 1;
          kb = kb + 1;
          a = subst (Rests (ka + 1) keys_a) (sym (t2.others (agent_on node_a) refl)) t.rests;
          b = t2.rests;
          earlier = earlier;
        })))

    -- how both stand in the middle of a round
    abbrev third : Standing
    third = told_rests true (up w are (server_at w are (s_3 w are)) false (a.Got sent_m))

    abbrev fifth : Standing
    fifth = told_rests true (up w are (client_at w are (c_5 w are) (Some ann_entry)) false (a.Got shown_m))

    -- the server is given some other bytes
    other_ends : (acts : List Act) (m : List (List ℕ)) (u left : ℕ) (pieces : List Piece) (bytes : List ℕ) → Pair acts m u (suc (suc (suc left))) fifth third → u ≤ round + 1 → room ≤ left → length m ≡ next → (rounds.kind_of (round + 1) ≡ Replayed → Earlier m (proof_of first)) → spelled m pieces ≡ Some bytes → length bytes ≤ 4000
        → AllFormed (l.Write s pieces ∷ (ending round ++ rest)) → Passes acts (l.Write s pieces ∷ (ending round ++ rest))
    other_ends acts m u left pieces bytes p asked enough long earlier spell short f =
        let answer = move_answer a.Ok (Some srv_entry) (answers (made_login w).server (s_3 w are) (give bytes)) in
        let b : Begun = server_at w are (give bytes ∷ s_3 w are) in
        let fit = fits 8192 answer in
        s_given acts m u (suc (suc left)) fifth third (ending round ++ rest) pieces b bytes answer fit p refl f.0 spell short (other_server w are keys_b (Waiting (rpc.writes bytes)) bytes) refl (move_out (Some srv_entry) (answers (made_login w).server (s_3 w are) (give bytes)) fit)
        (λ q. ends (Given s bytes ∷ acts) m u left fifth (told_rests fit (up w are b false answer)) q asked enough long earlier f.1)

    -- it is given the client's own message, and both go on to the end
    honest_ends : (acts : List Act) (m : List (List ℕ)) (u left : ℕ) → Pair acts m u (suc (suc (suc (suc (suc left))))) fifth third → u ≤ round + 1 → room ≤ left → length m ≡ first + 5 → next ≡ first + 6 → slice_get m (first + 4) ≡ Some shown_m
        → AllFormed (rounds.gives s (proof_of first) ∷ l.Read s ∷ rounds.gives c (rounds.last_of first) ∷ (ending round ++ rest)) → Passes acts (rounds.gives s (proof_of first) ∷ l.Read s ∷ rounds.gives c (rounds.last_of first) ∷ (ending round ++ rest))
    honest_ends acts m u left p asked enough long whole there f =
        let last = m ++ proved_m ∷ [] in
        let fourth = told_rests true (up w are (server_at w are (s_4 w are)) false a.Ok) in
        s_given acts m u (suc (suc (suc (suc left)))) fifth third _ (Whole (decimal (first + 4)) ∷ []) (server_at w are (s_4 w are)) shown_m a.Ok true p refl f.0 (whole_is m (first + 4) shown_m (omega (arith, small)) there) (omega (arith, shown_long w are)) (shown_server w are keys_b (Waiting (rpc.writes shown_m))) ok_fits ok_out (λ p1.
        s_got (Given s shown_m ∷ acts) m u (suc (suc (suc left))) fifth fourth _ (server_at w are (get ∷ s_4 w are)) proved_m p1 refl f.1.0 (proves_server w are keys_b (Waiting rpc.reads)) (omega (arith, proved_long w are)) (λ p2.
        c_given (Got s ∷ Given s shown_m ∷ acts) last u (suc (suc left)) fifth (told_rests true (up w are (server_at w are (get ∷ s_4 w are)) false (a.Got proved_m))) (ending round ++ rest) (Whole (decimal (first + 5)) ∷ []) (client_at w are (give proved_m ∷ c_5 w are) (Some ann_entry)) proved_m a.Ok true p2 refl f.1.1.0
        (whole_is last (first + 5) proved_m (omega (arith, small)) (last_is m proved_m (first + 5) long)) (omega (arith, proved_long w are)) (proved_client w are keys_a (Waiting (rpc.writes proved_m))) ok_fits ok_out (λ p3.
        ends (Given c proved_m ∷ Got s ∷ Given s shown_m ∷ acts) last u left _ _ p3 asked enough (omega (arith, length-append m (proved_m ∷ []), long, whole)) (λ is. record { bytes = shown_m; is = stays_there m (proved_m ∷ []) (first + 4) shown_m there; short = omega (arith, shown_long w are) }) f.1.1.1)))

    -- ---- the question is answered

    abbrev asking_c : Standing
    asking_c = stood w are (Some (client_at w are (c_3 w are) (Some ann_entry))) OnServer

    -- the client's question is outstanding
    record ClientAsks (acts : List Act) (m : List (List ℕ)) (u left : ℕ) : Type 0 where
      call : ℕ
      net : Net acts m open_both given u left
      a : AsksServer ka keys_a asking_c call (history acts (agent_on node_a))
      b : Sits kb keys_b third (history acts (agent_on node_b))
      asks : outstanding acts c ≡ Some call

    abbrev words_w : List (List ℕ)
    words_w = w.first ∷ w.second ∷ w.third ∷ []

    abbrev session : List ℕ
    session = session_of round

    granted_goes : (acts : List Act) (m : List (List ℕ)) (left : ℕ) (said : List ScriptLine) → ClientAsks acts m round (suc (suc (suc left))) → length m ≡ first + 3 → slice_get m (first + 2) ≡ Some asked_m → AllFormed (answering round first (drawn_of w) ++ said)
        → ((more : List Act) (later : List (List ℕ)) → later ≡ (m ++ granted_m ∷ []) ++ shown_m ∷ [] → Pair more later (round + 1) left fifth third → Passes more said) → Passes acts (answering round first (drawn_of w) ++ said)
    granted_goes acts m left said q long there f next_lines =
        let question_pieces = Whole (decimal (first + 2)) ∷ [] in
        let answer_pieces = Whole (decimal (first + 3)) ∷ [] in
        let asked_act = Asked session asked_m words_w in
        let behind = asked_act ∷ acts in
        let m4 = m ++ granted_m ∷ [] in
        let t = served_on acts m open_both given round (suc (suc left)) asked_m words_w granted_m q.net (omega (arith, few)) (request_kind w) (question_long w are) (granted w are) (λ later past below. other_round 114 114 round later past below) in
        one acts (l.AsGive session question_pieces w.first w.second w.third) asked_act _ f.0
        (fit_line acts (l.AsGive session question_pieces w.first w.second w.third) asked_act refl (ap (option_map (λ x. Asked session x words_w)) (spelled_as acts m round (suc (suc (suc left))) question_pieces asked_m q.net (whole_is m (first + 2) asked_m (omega (arith, small)) there))) t.fits) (λ may.
        let net4 = t.net may in
        let act = Answered c granted_m q.call in
        let spell = spelled_as behind m4 (round + 1) (suc (suc left)) answer_pieces granted_m net4 (whole_is m4 (first + 3) granted_m (omega (arith, small)) (last_is m granted_m (first + 3) long)) in
        let b3 : Begun = client_at w are (c_3 w are) (Some ann_entry) in
        let h = heard_on behind m4 open_both given (round + 1) (suc left) net4 c node_a (at_c behind m4 (round + 1) (suc (suc left)) net4) ka keys_a asking_c b3 q.call granted_m a.Ok q.a refl (hears_client w are) ok_fits ok_out in
        one behind (l.Answer c answer_pieces) act (l.Read c ∷ said) f.1.0
        (fit_line behind (l.Answer c answer_pieces) act (on_known behind c tc (at_c behind m4 (round + 1) (suc (suc left)) net4).talk) (ap (option_map (λ x. Answered c x (call_now behind c))) spell ∙ ap (λ o. Some (Answered c granted_m (call_or o))) q.asks) (answered_fits behind c granted_m q.call q.call q.asks (omega (arith, both_long w are)))) (λ may2.
        let net5 = subst (λ xs. Net (act ∷ behind) xs open_both given (round + 1) (suc left)) (append-nil m4) (h.done.net may2) in
        let p : Pair (act ∷ behind) m4 (round + 1) (suc left) h.now third = record { net = net5; a = h.sits; b = subst (Sits kb keys_b third) (sym (h.done.others (agent_on node_b) refl)) q.b } in
        c_got (act ∷ behind) m4 (round + 1) left h.now third said (client_at w are (c_5 w are) (Some ann_entry)) shown_m p h.rests f.1.1.0 (ap (λ o. carried_among keys_a o gets) h.begun ∙ shows_client w are keys_a (Waiting rpc.reads)) (omega (arith, shown_long w are))
        (λ p2. next_lines (Got c ∷ act ∷ behind) (m4 ++ shown_m ∷ []) refl p2)))

    -- it isn't
    unanswered_ends : (acts : List Act) (m : List (List ℕ)) (left : ℕ) → ClientAsks acts m round (suc (suc (suc left))) → room ≤ left → length m ≡ next → (rounds.kind_of (round + 1) ≡ Replayed → Earlier m (proof_of first)) → AllFormed (l.NoAnswer c ∷ (ending round ++ rest)) → Passes acts (l.NoAnswer c ∷ (ending round ++ rest))
    unanswered_ends acts m left q enough long earlier f =
        let b3 : Begun = client_at w are (c_3 w are) (Some ann_entry) in
        let missed : ℕ → Act = λ k. Unanswered c k in
        let act : Act = missed q.call in
        let at = at_c acts m round (suc (suc (suc left))) q.net in
        let h = missed_on acts m open_both given round (suc (suc left)) q.net c node_a at ka keys_a asking_c b3 q.call a.NoServer q.a refl (misses_client w are) no_server_fits no_server_out in
        one acts (l.NoAnswer c) act (ending round ++ rest) f.0 (fit_line acts (l.NoAnswer c) act (on_known acts c tc at.talk) (ap (λ o. Some (missed (call_or o))) q.asks) (unanswered_fits acts c q.call q.call q.asks)) (λ may.
        let net = subst (λ xs. Net (act ∷ acts) xs open_both given round (suc (suc left))) (append-nil m) (h.done.net may) in
        ends (act ∷ acts) m round left h.now third (record { net = net; a = h.sits; b = subst (Sits kb keys_b third) (sym (h.done.others (agent_on node_b) refl)) q.b }) (omega arith) enough long earlier f.1)

    -- ---- the beginning

    node_known : (acts : List Act) (m : List (List ℕ)) (o : List Talk) (g : List (List ℕ)) (u left : ℕ) (node : List ℕ) → Net acts m o g u left → has_name node (codes "b" ∷ codes "a" ∷ []) ≡ true → on_node acts node ≡ None
    node_known acts m o g u left node net is = ap (λ names. cond (has_name node names) None (Some UnknownNode)) net.made ∙ ap (λ b. cond b None (Some UnknownNode)) is

    new_server : has_name s (c ∷ given_before) ≡ false
    new_server = or_from (bytes_eq c s) (has_name s given_before) refl (new 115 round (omega arith) (omega (arith, few)))

    starts_client : carried_among keys_a None (starts w.client client_tuple) ≡ up w are (client_at w are [] None) true a.Ok
    starts_client = ap (λ text. carried_among keys_a None (starts w.client text)) client_text ∙ start_client w are keys_a (Waiting (rpc.starts (codes "proto=p9sk1 role=client")))

    starts_server : carried_among keys_b None (starts w.server server_tuple) ≡ up w are (server_at w are (s_1 w are)) true a.Ok
    starts_server = ap (λ text. carried_among keys_b None (starts w.server text)) server_text ∙ start_server w are (Waiting (rpc.starts (codes "proto=p9sk1 role=server")))

    begins : (acts : List Act) (m : List (List ℕ)) (left : ℕ) (mid : List ScriptLine) → Net acts m [] given_before round (suc (suc (suc (suc (suc (suc (suc (suc left)))))))) → length m ≡ first → Rests ka keys_a (history acts (agent_on node_a)) → Rests kb keys_b (history acts (agent_on node_b)) → AllFormed (starting round (drawn_of w) ++ (challenging round first ++ mid))
        → ((more : List Act) → ClientAsks more (((m ++ w.client ∷ []) ++ sent_m ∷ []) ++ asked_m ∷ []) round left → Passes more mid) → Passes acts (starting round (drawn_of w) ++ (challenging round first ++ mid))
    begins acts m left mid net long at_a at_b f next_lines =
        let m1 = m ++ w.client ∷ [] in
        let m2 = m1 ++ sent_m ∷ [] in
        let six = suc (suc (suc (suc (suc (suc left))))) in
        let o1 = opened_on acts m [] given_before round (suc six) c node_a ka keys_a net (new 99 round (omega arith) (omega (arith, few))) refl at_a in
        one acts (l.Open node_a c) (Opened node_a c) _ f.0 (fit_line acts (l.Open node_a c) (Opened node_a c) (node_known acts m [] given_before round (suc (suc six)) node_a net refl) refl o1.fits) (λ may1.
        let acts1 = Opened node_a c ∷ acts in
        let net1 = o1.net may1 in
        let o2 = opened_on acts1 m (tc ∷ []) (c ∷ given_before) round six s node_b kb keys_b net1 new_server refl (subst (Rests kb keys_b) (sym (o1.others (agent_on node_b) refl)) at_b) in
        one acts1 (l.Open node_b s) (Opened node_b s) _ f.1.0 (fit_line acts1 (l.Open node_b s) (Opened node_b s) (node_known acts1 m (tc ∷ []) (c ∷ given_before) round (suc six) node_b net1 refl) refl o2.fits) (λ may2.
        let acts2 = Opened node_b s ∷ acts1 in
        let p2 : Pair acts2 m round six untouched untouched = record { net = o2.net may2; a = subst (Sits ka keys_a untouched) (sym (o2.others (agent_on node_a) refl)) o1.sits; b = o2.sits } in
        let act3 = Started c w.client client_tuple in
        let act4 = Started s w.server server_tuple in
        let sa = told_rests true (up w are (client_at w are [] None) true a.Ok) in
        let sb = told_rests true (up w are (server_at w are (s_1 w are)) true a.Ok) in
        c_step acts2 m round (suc (suc (suc (suc (suc left))))) untouched untouched _ p2 refl (l.Start c w.client client_tuple) act3 (starts w.client client_tuple) f.1.1.0 (on_started acts2 c w.client client_tuple) (plain_started acts2 c w.client client_tuple) refl refl (started_fits acts2 c w.client client_tuple)
        (subst (λ text. length (codes "start " ++ text) ≤ 4096) (sym client_text) (omega arith)) (up w are (client_at w are [] None) true a.Ok) a.Ok true m starts_client refl ok_fits (ap (λ xs. m ++ xs) ok_out ∙ append-nil m) (λ p3.
        s_step (act3 ∷ acts2) m round (suc (suc (suc (suc left)))) sa untouched _ p3 refl (l.Start s w.server server_tuple) act4 (starts w.server server_tuple) f.1.1.1.0 (on_started (act3 ∷ acts2) s w.server server_tuple) (plain_started (act3 ∷ acts2) s w.server server_tuple) refl refl (started_fits (act3 ∷ acts2) s w.server server_tuple)
        (subst (λ text. length (codes "start " ++ text) ≤ 4096) (sym server_text) (omega arith)) (up w are (server_at w are (s_1 w are)) true a.Ok) a.Ok true m starts_server refl ok_fits (ap (λ xs. m ++ xs) ok_out ∙ append-nil m) (λ p4.
        let acts4 = act4 ∷ act3 ∷ acts2 in
        let sa5 = told_rests true (up w are (client_at w are (get ∷ []) None) false (a.Got w.client)) in
        c_got acts4 m round (suc (suc (suc left))) sa sb _ (client_at w are (get ∷ []) None) w.client p4 refl f.1.1.1.1.0 (got_client w are keys_a (Waiting rpc.reads)) (omega (arith, are.client.whole)) (λ p5.
        let acts5 = Got c ∷ acts4 in
        s_given acts5 m1 round (suc (suc left)) sa5 sb _ (Whole (decimal first) ∷ []) (server_at w are (give w.client ∷ s_1 w are)) w.client a.Ok true p5 refl f.1.1.1.1.1.0 (whole_is m1 first w.client (omega (arith, small)) (last_is m w.client first long)) (omega (arith, are.client.whole)) (given_server w are keys_b (Waiting (rpc.writes w.client))) ok_fits ok_out (λ p6.
        let acts6 = Given s w.client ∷ acts5 in
        s_got acts6 m1 round (suc left) sa5 (told_rests true (up w are (server_at w are (give w.client ∷ s_1 w are)) false a.Ok)) _ (server_at w are (s_3 w are)) sent_m p6 refl f.1.1.1.1.1.1.0 (got_server w are keys_b (Waiting rpc.reads)) (omega (arith, sent_long w are)) (λ p7.
        let acts7 = Got s ∷ acts6 in
        let act8 = Given c sent_m in
        let pieces = Whole (decimal (first + 1)) ∷ [] in
        let long1 : length m1 ≡ first + 1 = omega (arith, length-append m (w.client ∷ []), long) in
        let at8 = at_c acts7 m2 round (suc left) p7.net in
        let short8 : length sent_m ≤ 4000 = omega (arith, sent_long w are) in
        let k = asked_on acts7 m2 open_both given round left p7.net act8 (plain_given acts7 c sent_m) c node_a at8 (gives sent_m) (on_given acts7 c sent_m) (short_text sent_m short8) ka keys_a sa5 p7.a refl asking_c (asks_client w are (Waiting (rpc.writes sent_m))) refl in
        one acts7 (l.Write c pieces) act8 mid f.1.1.1.1.1.1.1.0
        (fit_line acts7 (l.Write c pieces) act8 (on_known acts7 c tc at8.talk) (ap (option_map (λ x. Given c x)) (spelled_as acts7 m2 round (suc left) pieces sent_m p7.net (whole_is m2 (first + 1) sent_m (omega (arith, small)) (last_is m1 sent_m (first + 1) long1)))) (given_fits acts7 c sent_m short8)) (λ may8.
        next_lines (act8 ∷ acts7) (record {
          call = k.call;
          net = subst (λ x. Net (act8 ∷ acts7) (m2 ++ x ∷ []) open_both given round left) (ap bytes_of (needs_tickets w are)) (k.done.net may8);
          a = k.asking;
          b = subst (Sits kb keys_b third) (sym (k.done.others (agent_on node_b) refl)) p7.b;
          asks = k.outstanding;
        })))))))))

    -- ---- all of it

    long_two : (m : List (List ℕ)) → length m ≡ first → length ((m ++ w.client ∷ []) ++ sent_m ∷ []) ≡ first + 2
    long_two m long = omega (arith, length-append (m ++ w.client ∷ []) (sent_m ∷ []), length-append m (w.client ∷ []), long)

    pub passes_round : (kind : Kind) → next ≡ first + recorded kind → (rounds.kind_of (round + 1) ≡ Replayed → kind ≡ Honest) → (acts : List Act) (m : List (List ℕ)) (left : ℕ) → room ≤ left
        → Net acts m [] given_before round (suc (suc (suc (suc (suc (suc (suc (suc (suc (suc (suc (suc (suc (suc (suc (suc left)))))))))))))))) → length m ≡ first → Rests ka keys_a (history acts (agent_on node_a)) → Rests kb keys_b (history acts (agent_on node_b)) → (kind ≡ Replayed → Earlier m (proof_of before))
        → AllFormed (starting round (drawn_of w) ++ (challenging round first ++ (middle kind round before first (drawn_of w) ++ (ending round ++ rest)))) → Passes acts (starting round (drawn_of w) ++ (challenging round first ++ (middle kind round before first (drawn_of w) ++ (ending round ++ rest))))
    passes_round Honest whole is acts m left enough net long at_a at_b earlier f =
        let m2 = (m ++ w.client ∷ []) ++ sent_m ∷ [] in
        let m3 = m2 ++ asked_m ∷ [] in
        let two = long_two m long in
        begins acts m (suc (suc (suc (suc (suc (suc (suc (suc left)))))))) _ net long at_a at_b f (λ more q.
        granted_goes more m3 (suc (suc (suc (suc (suc left))))) _ q (omega (arith, length-append m2 (asked_m ∷ []), two)) (last_is m2 asked_m (first + 2) two) f.1.1.1.1.1.1.1.1 (λ later_acts later e p.
        honest_ends later_acts later (round + 1) left p (omega arith) enough
        (ap length e ∙ omega (arith, length-append (m3 ++ granted_m ∷ []) (shown_m ∷ []), length-append m3 (granted_m ∷ []), length-append m2 (asked_m ∷ []), two)) whole
        (ap (λ xs. slice_get xs (first + 4)) e ∙ last_is (m3 ++ granted_m ∷ []) shown_m (first + 4) (omega (arith, length-append m3 (granted_m ∷ []), length-append m2 (asked_m ∷ []), two))) f.1.1.1.1.1.1.1.1.1.1.1))
    passes_round Replayed whole is acts m left enough net long at_a at_b earlier f =
        let m2 = (m ++ w.client ∷ []) ++ sent_m ∷ [] in
        let m3 = m2 ++ asked_m ∷ [] in
        let two = long_two m long in
        let old = earlier refl in
        let kept3 = stays_there m2 (asked_m ∷ []) (proof_of before) old.bytes (stays_there (m ++ w.client ∷ []) (sent_m ∷ []) (proof_of before) old.bytes (stays_there m (w.client ∷ []) (proof_of before) old.bytes old.is)) in
        let kept5 = stays_there (m3 ++ granted_m ∷ []) (shown_m ∷ []) (proof_of before) old.bytes (stays_there m3 (granted_m ∷ []) (proof_of before) old.bytes kept3) in
        begins acts m (suc (suc (suc (suc (suc (suc (suc (suc left)))))))) _ net long at_a at_b f (λ more q.
        granted_goes more m3 (suc (suc (suc (suc (suc left))))) _ q (omega (arith, length-append m2 (asked_m ∷ []), two)) (last_is m2 asked_m (first + 2) two) f.1.1.1.1.1.1.1.1 (λ later_acts later e p.
        other_ends later_acts later (round + 1) (suc (suc left)) (Whole (decimal (proof_of before)) ∷ []) old.bytes p (omega arith) (omega (arith, enough))
        (ap length e ∙ omega (arith, length-append (m3 ++ granted_m ∷ []) (shown_m ∷ []), length-append m3 (granted_m ∷ []), length-append m2 (asked_m ∷ []), two, whole)) (λ replays. absurd (let no_way : Replayed ≡ Honest = is replays in cc))
        (whole_is later (proof_of before) old.bytes (omega (arith, small_before)) (ap (λ xs. slice_get xs (proof_of before)) e ∙ kept5)) old.short f.1.1.1.1.1.1.1.1.1.1.1))
    passes_round Unanswered whole is acts m left enough net long at_a at_b earlier f =
        let m2 = (m ++ w.client ∷ []) ++ sent_m ∷ [] in
        let m3 = m2 ++ asked_m ∷ [] in
        let two = long_two m long in
        begins acts m (suc (suc (suc (suc (suc (suc (suc (suc left)))))))) _ net long at_a at_b f (λ more q.
        unanswered_ends more m3 (suc (suc (suc (suc (suc left))))) q (omega (arith, enough)) (omega (arith, length-append m2 (asked_m ∷ []), two, whole)) (λ replays. absurd (let no_way : Unanswered ≡ Honest = is replays in cc)) f.1.1.1.1.1.1.1.1)
    passes_round Blank whole is acts m left enough net long at_a at_b earlier f =
        let m2 = (m ++ w.client ∷ []) ++ sent_m ∷ [] in
        let m3 = m2 ++ asked_m ∷ [] in
        let two = long_two m long in
        let zero_bytes = result_unwrap_or (decode_of zeros) [] in
        begins acts m (suc (suc (suc (suc (suc (suc (suc (suc left)))))))) _ net long at_a at_b f (λ more q.
        granted_goes more m3 (suc (suc (suc (suc (suc left))))) _ q (omega (arith, length-append m2 (asked_m ∷ []), two)) (last_is m2 asked_m (first + 2) two) f.1.1.1.1.1.1.1.1 (λ later_acts later e p.
        other_ends later_acts later (round + 1) (suc (suc left)) (Spelled zeros ∷ []) zero_bytes p (omega arith) (omega (arith, enough))
        (ap length e ∙ omega (arith, length-append (m3 ++ granted_m ∷ []) (shown_m ∷ []), length-append m3 (granted_m ∷ []), length-append m2 (asked_m ∷ []), two, whole)) (λ replays. absurd (let no_way : Blank ≡ Honest = is replays in cc))
        (ap Some (append-nil zero_bytes)) zeros_short f.1.1.1.1.1.1.1.1.1.1.1))
