-- No line of a script that is made of a number is refused.
use Rattle.std.proofs.Common.{◌≡◌, ℕ, zero, suc, ◌+◌, ◌*◌, ◌≤◌, ◌<◌, ◌%◌, List, [], ◌∷◌, ◌++◌, append_assoc, map, codes, drop, length, Bool, true, false, cond, eqb, ◌&&◌, Some, Ok, refl, sym, ap, subst, ◌∙◌, arith}
use Rattle.std.specs.Str.{chars, is_utf8}
use Rattle.std.specs.Str.Lossy.{utf8_valid_len}
use lib.Utf8.{encode}
use Rattle.std.proofs.lemmas.Bool.{and_parts, eqb-true}
use Rattle.wire_base.specs.Texts.{is_text}
use Rattle.attr_tuples.specs.Grammar.{attr_of, tuple_of, words_from}
use Rattle.attr_tuples.specs.Lines.{line_len}
use Rattle.attr_tuples.specs.Matching.{value_of}
use Rattle.attr_tuples.specs.Words.{first_word, gap_len}
use Rattle.auth_tables.specs.Lines.{first_bad, tuple_in}
use Rattle.auth_tables.specs.Keys.{key_in}
use Rattle.nine.specs.declared.message.RMsg.{RMsg}
use Rattle.nine.specs.declared.message.RBody.{RBody}
use Rattle.nine.specs.declared.message.RBody.TheVariants as r
use Rattle.sealing.specs.Fitting.{IsBlock}
use Rattle.agent_history.specs.Histories.{History, deeds}
use Rattle.world_scripts.specs.Draws.{draws, generator_of}
use Rattle.world_scripts.specs.Generated.{drawn, gen_lines, gen_text, rounds_from}
use Rattle.world_scripts.specs.Lines.{ScriptLine, AsKey, Node, Ctl, is_name, is_random}
use Rattle.world_scripts.specs.Reading.{line_of}
use Rattle.world_scripts.specs.Scripts.{Numbered, script_lines}
use Rattle.world_scripts.specs.declared.round.Drawn.{Drawn}
use Rattle.world_scripts.specs.declared.round.Kind.{Kind}
use Rattle.world_scripts.specs.declared.round.Kind.TheVariants.{Honest, Replayed, Unanswered, Blank}
use Rattle.world_scripts.specs.Rounds.{challenging, client_of, ending, kind_of, middle, recorded, round_lines, server_of, session_of, starting}
use Rattle.world_scripts.proofs.LineLemmas.{line_parts}
use Rattle.world_scripts.proofs.MadeLemmas.{made_read}
use Rattle.world_history.specs.Acts.{Act, KeyLine, Made, Told}
use Rattle.world_history.specs.Driving.{new_node, replies_to, told, writes}
use Rattle.world_history.specs.Scripts.{is_unfit, judged, play}
use Rattle.world_history.specs.Turns.{after, refused_by, tells, told_steps, turn_steps}
use Rattle.world_history.specs.Worlds.{history, messages, messages_in, steps_by}
use Rattle.world_promises.specs.Conditions.{AreDone}
use Rattle.world_promises.specs.MadeRuns.{MadeIsNotRefused}
use Rattle.world_promises.proofs.DrivenSeats.{unseated}
use Rattle.world_promises.proofs.SightLaws.{sight}
use Rattle.talks.specs.Standings.{untouched}
use Rattle.world_promises.proofs.LengthLaws.{few_run}
use Rattle.world_promises.proofs.MadeLines.{agent_on, less_room, messages_then}
use Rattle.world_promises.proofs.MadeNodes.{ann_sees, srv_sees}
use Rattle.world_promises.proofs.MadePairs.{passes_round}
use Rattle.world_promises.proofs.MadeRounds.{AllFormed, Between, Passes, lines_pass, nothing_left, one, read_of}
use Rattle.world_promises.proofs.PlayLaws.{random_block}
use Rattle.world_promises.proofs.ScriptLaws.{all_seated, driven}
use Rattle.world_promises.proofs.SkTalks.{Words, ann_entry, one_key, srv_entry}

-- ---- kinds of rounds

abbrev kind_at : ℕ → Kind
kind_at n = cond (eqb n 0) Honest (cond (eqb n 1) Replayed (cond (eqb n 2) Unanswered Blank))

second_test : (x y z : Bool) → cond x Honest (cond y Replayed (cond z Unanswered Blank)) ≡ Replayed → y ≡ true
second_test true y z e = absurd cc
second_test false true z e = refl
second_test false false true e = absurd cc
second_test false false false e = absurd cc

-- the round before one with a replay is honest
before_replay : (round : ℕ) → kind_of (round + 1) ≡ Replayed → kind_of round ≡ Honest
before_replay round e =
    let one_more : (round + 1) % 4 ≡ 1 = eqb-true ((round + 1) % 4) 1 (second_test (eqb ((round + 1) % 4) 0) (eqb ((round + 1) % 4) 1) (eqb ((round + 1) % 4) 2) e) in
    let here : round % 4 ≡ 0 = omega (arith, one_more) in
    ap kind_at here

recorded_few : (kind : Kind) → recorded kind ≤ 6
recorded_few Honest = omega arith
recorded_few Replayed = omega arith
recorded_few Unanswered = omega arith
recorded_few Blank = omega arith

-- ---- a round

abbrev sixteen : ℕ → ℕ
sixteen n = suc (suc (suc (suc (suc (suc (suc (suc (suc (suc (suc (suc (suc (suc (suc (suc n)))))))))))))))

random_of : (conv word : List ℕ) → (is_name conv && is_random word) ≡ true → IsBlock 8 word
random_of conv word formed = random_block word (and_parts (is_name conv) (is_random word) formed).1

first_random : (session first second third : List ℕ) (pieces : Bool) → (is_name session && (pieces && (is_random first && (is_random second && is_random third)))) ≡ true → IsBlock 8 first
first_random session first second third pieces formed =
    let behind = (and_parts (is_name session) (pieces && (is_random first && (is_random second && is_random third))) formed).1 in
    let words = (and_parts pieces (is_random first && (is_random second && is_random third)) behind).1 in
    random_block first (and_parts (is_random first) (is_random second && is_random third) words).0

abbrev words_of : Drawn → Words
words_of d = record { client = d.client; server = d.server; first = d.first; second = d.second; third = d.third }

-- where nothing is asked of the authentication server its first word doesn't matter
abbrev other_words : Drawn → Words
other_words d = record { client = d.client; server = d.server; first = d.client; second = d.second; third = d.third }

module _ (round before first : ℕ) (d : Drawn) (rest : List ScriptLine) (acts : List Act) (room : ℕ) (few : round < 1000000) (small : first < 1000000) (small_before : before < 1000000) where
  abbrev lines_as : Kind → List ScriptLine
  lines_as kind = starting round d ++ (challenging round first ++ (middle kind round before first d ++ (ending round ++ rest)))

  by_kind : (kind : Kind) → kind_of round ≡ kind → Between round before first acts (sixteen room) → ((more : List Act) → Between (round + 1) first (first + recorded kind) more room → Passes more rest) → AllFormed (lines_as kind) → Passes acts (lines_as kind)
  by_kind Honest e b go_on f =
      passes_round round before first (words_of d) (record { client = random_of (client_of round) d.client f.1.1.0; server = random_of (server_of round) d.server f.1.1.1.0; first = first_random (session_of round) d.first d.second d.third _ f.1.1.1.1.1.1.1.1.0 }) few small small_before room rest b.given b.new b.ka b.kb
      (first + 6) go_on Honest refl (λ replays. refl) acts b.m room (omega arith) b.net b.long b.a b.b (λ is. absurd (let no_way : Honest ≡ Replayed = is in cc)) f
  by_kind Replayed e b go_on f =
      passes_round round before first (words_of d) (record { client = random_of (client_of round) d.client f.1.1.0; server = random_of (server_of round) d.server f.1.1.1.0; first = first_random (session_of round) d.first d.second d.third _ f.1.1.1.1.1.1.1.1.0 }) few small small_before room rest b.given b.new b.ka b.kb
      (first + 5) go_on Replayed refl (λ replays. sym e ∙ before_replay round replays) acts b.m room (omega arith) b.net b.long b.a b.b (λ is. b.earlier e) f
  by_kind Unanswered e b go_on f =
      passes_round round before first (other_words d) (record { client = random_of (client_of round) d.client f.1.1.0; server = random_of (server_of round) d.server f.1.1.1.0; first = random_of (client_of round) d.client f.1.1.0 }) few small small_before room rest b.given b.new b.ka b.kb
      (first + 3) go_on Unanswered refl (λ replays. sym e ∙ before_replay round replays) acts b.m room (omega arith) b.net b.long b.a b.b (λ is. absurd (let no_way : Unanswered ≡ Replayed = is in cc)) f
  by_kind Blank e b go_on f =
      passes_round round before first (words_of d) (record { client = random_of (client_of round) d.client f.1.1.0; server = random_of (server_of round) d.server f.1.1.1.0; first = first_random (session_of round) d.first d.second d.third _ f.1.1.1.1.1.1.1.1.0 }) few small small_before room rest b.given b.new b.ka b.kb
      (first + 5) go_on Blank refl (λ replays. sym e ∙ before_replay round replays) acts b.m room (omega arith) b.net b.long b.a b.b (λ is. absurd (let no_way : Blank ≡ Replayed = is in cc)) f

  -- the parts of a round, one behind the other
  parted : round_lines round before first d ++ rest ≡ lines_as (kind_of round)
  parted = ap (λ (lines : List ScriptLine). starting round d ++ (challenging round first ++ lines)) (append_assoc (middle (kind_of round) round before first d) (ending round) rest)

  round_passes : Between round before first acts (sixteen room) → AllFormed (round_lines round before first d ++ rest) → ((more : List Act) → Between (round + 1) first (first + recorded (kind_of round)) more room → Passes more rest) → Passes acts (round_lines round before first d ++ rest)
  round_passes b f go_on = subst (Passes acts) (sym parted) (by_kind (kind_of round) refl b go_on (subst AllFormed parted f))

-- ---- rounds

formed_behind : (front back : List ScriptLine) → AllFormed (front ++ back) → AllFormed back
formed_behind [] back f = f
formed_behind (line ∷ front) back f = formed_behind front back f.1

between_less : (round before first : ℕ) (acts : List Act) (left fewer : ℕ) → fewer ≤ left → Between round before first acts left → Between round before first acts fewer
between_less round before first acts left fewer less b = record {
  m = b.m;
  given = b.given;
  net = less_room acts b.m [] b.given round round left fewer b.net (omega arith) less;
  new = b.new;
  long = b.long;
  ka = b.ka;
  kb = b.kb;
  a = b.a;
  b = b.b;
  earlier = b.earlier;
}

rounds_pass : (n round before first : ℕ) (words : List (List ℕ)) (acts : List Act) → round + n ≤ 1000 → first ≤ 6 * round → before ≤ 6 * round → Between round before first acts (20 * n) → AllFormed (rounds_from n round before first words) → Passes acts (rounds_from n round before first words)
rounds_pass zero round before first words acts few small small_before b f = nothing_left acts
rounds_pass (suc n) round before first words acts few small small_before b f =
    let next = first + recorded (kind_of round) in
    let rest = rounds_from n (round + 1) first next (drop 5 words) in
    round_passes round before first (drawn words) rest acts (20 * n) (omega (arith, few)) (omega (arith, few, small)) (omega (arith, few, small_before)) (between_less round before first acts (20 * suc n) (sixteen (20 * n)) (omega arith) b) f (λ more later.
    rounds_pass n (round + 1) first next (drop 5 words) more (omega (arith, few)) (omega (arith, small, recorded_few (kind_of round))) (omega (arith, small)) later (formed_behind (round_lines round before first (drawn words)) rest f))

-- ---- the opening

abbrev ann_line : List ℕ
ann_line = codes "user=ann !password=annpass"

abbrev srv_line : List ℕ
srv_line = codes "user=srv !password=srvpass"

abbrev ann_key : List ℕ
ann_key = codes "key proto=p9sk1 dom=x user=ann !password=annpass"

abbrev srv_key : List ℕ
srv_key = codes "key proto=p9sk1 dom=x user=srv !password=srvpass"

abbrev behind_keys : List Act
behind_keys = KeyLine srv_line ∷ KeyLine ann_line ∷ []

abbrev behind_nodes : List Act
behind_nodes = Made (codes "b") ∷ Made (codes "a") ∷ behind_keys

abbrev behind_one : List Act
behind_one = Told (codes "a") ann_key ∷ behind_nodes

abbrev behind_opening : List Act
behind_opening = Told (codes "b") srv_key ∷ behind_one

first_key : judged [] (Some (AsKey ann_line)) ≡ Ok (KeyLine ann_line)
unfolding is_unfit first_bad key_in tuple_in tuple_of words_from first_word gap_len attr_of value_of line_len is_text is_utf8 chars encode utf8_valid_len
first_key = refl

second_key : judged (KeyLine ann_line ∷ []) (Some (AsKey srv_line)) ≡ Ok (KeyLine srv_line)
unfolding is_unfit first_bad key_in tuple_in tuple_of words_from first_word gap_len attr_of value_of line_len is_text is_utf8 chars encode utf8_valid_len
second_key = refl

first_node : judged behind_keys (Some (Node (codes "a"))) ≡ Ok (Made (codes "a"))
unfolding is_unfit
first_node = refl

second_node : judged (Made (codes "a") ∷ behind_keys) (Some (Node (codes "b"))) ≡ Ok (Made (codes "b"))
unfolding is_unfit
second_node = refl

first_told : judged behind_nodes (Some (Ctl (codes "a") ann_key)) ≡ Ok (Told (codes "a") ann_key)
unfolding is_unfit
first_told = refl

second_told : judged behind_one (Some (Ctl (codes "b") srv_key)) ≡ Ok (Told (codes "b") srv_key)
unfolding is_unfit
second_told = refl

-- a line of ctl records no message
refused_none : (node : List ℕ) (body : RBody) (more : List (List ℕ)) → messages_in (refused_by node body) ++ more ≡ more
refused_none node (r.Error text) more = refl
refused_none node body more = refl

told_none : (node line : List ℕ) (n : ℕ) (h : History) → messages_in (turn_steps n (tells node line) h) ≡ []
unfolding turn_steps
told_none node line n h = all_none (replies_to (writes 1 line) h)
  where
    all_none : (ms : List RMsg) → messages_in (told_steps node ms) ≡ []
    all_none [] = refl
    all_none (m ∷ ms) = one_none m.body (told_steps node ms) (all_none ms)
      where
        one_none : (body : RBody) (more : _) → messages_in more ≡ [] → messages_in (refused_by node body ++ more) ≡ []
        one_none (r.Error text) more none = none
        one_none body more none = none

no_messages : messages behind_opening ≡ []
no_messages =
    messages_then behind_one (Told (codes "b") srv_key)
    ∙ (ap (λ xs. xs ++ messages_in (steps_by (length (messages behind_one)) behind_one (Told (codes "b") srv_key))) (messages_then behind_nodes (Told (codes "a") ann_key) ∙ told_none (codes "a") ann_key 0 (history behind_nodes (agent_on (codes "a"))))
    ∙ told_none (codes "b") srv_key (length (messages behind_one)) (history behind_one (agent_on (codes "b"))))

history_a : history behind_opening (agent_on (codes "a")) ≡ told ann_key new_node
unfolding after
history_a = refl

history_b : history behind_opening (agent_on (codes "b")) ≡ told srv_key new_node
unfolding after
history_b = refl

opened_between : (left : ℕ) → left ≤ 900000 → AreDone behind_opening → Between 0 0 0 behind_opening left
opened_between left enough done =
    let run = few_run driven behind_opening done (omega arith) in
    let seated = all_seated behind_opening done run in
    record {
      m = [];
      given = [];
      net = record {
        made = refl;
        kept = λ node. refl;
        talking = refl;
        recorded = no_messages;
        names = refl;
        dom = refl;
        keys = refl;
        speaks = refl;
        fresh = λ later from few. (refl, refl);
        done = done;
        room = omega (arith, enough);
      };
      new = λ letter later from few. refl;
      long = refl;
      ka = 0;
      kb = 0;
      a = record { idle = seated.idle (codes "a") refl; sees = λ m from. subst (λ h. sight m (deeds h) ≡ unseated 0 (one_key ann_entry) untouched) (sym history_a) (ann_sees m) };
      b = record { idle = seated.idle (codes "b") refl; sees = λ m from. subst (λ h. sight m (deeds h) ≡ unseated 0 (one_key srv_entry) untouched) (sym history_b) (srv_sees m) };
      earlier = λ is. absurd (let no_way : Honest ≡ Replayed = is in cc);
    }

-- ---- the whole

formed_lines : (lines : List Numbered) (said : List ScriptLine) → read_of lines ≡ map Some said → AllFormed said
formed_lines lines [] e = tt
formed_lines [] (line ∷ said) e = absurd (let no_way : [] ≡ Some line ∷ map Some said = e in cc)
formed_lines (n ∷ lines) (line ∷ said) e =
    let here : line_of n.text ≡ Some line = cc in
    let rest : read_of lines ≡ map Some said = cc in
    ((line_parts n.text line here).formed, formed_lines lines said rest)

all_pass : (number rounds : ℕ) → rounds ≤ 1000 → AllFormed (gen_lines number rounds) → Passes [] (gen_lines number rounds)
all_pass number rounds few f =
    let rest = rounds_from rounds 0 0 0 (draws (5 * rounds) (generator_of number)) in
    one [] (AsKey ann_line) (KeyLine ann_line) _ f.0 first_key (λ may1.
    one (KeyLine ann_line ∷ []) (AsKey srv_line) (KeyLine srv_line) _ f.1.0 second_key (λ may2.
    one behind_keys (Node (codes "a")) (Made (codes "a")) _ f.1.1.0 first_node (λ may3.
    one (Made (codes "a") ∷ behind_keys) (Node (codes "b")) (Made (codes "b")) _ f.1.1.1.0 second_node (λ may4.
    one behind_nodes (Ctl (codes "a") ann_key) (Told (codes "a") ann_key) _ f.1.1.1.1.0 first_told (λ may5.
    one behind_one (Ctl (codes "b") srv_key) (Told (codes "b") srv_key) rest f.1.1.1.1.1.0 second_told (λ may6.
    rounds_pass rounds 0 0 0 (draws (5 * rounds) (generator_of number)) behind_opening (omega (arith, few)) (omega arith) (omega arith)
    (opened_between (20 * rounds) (omega (arith, few)) (may6, (may5, (may4, (may3, (may2, (may1, tt))))))) f.1.1.1.1.1.1))))))

pub made_passes : MadeIsNotRefused
unfolding play
made_passes number rounds few =
    let lines = script_lines (gen_text number rounds) in
    let read = made_read number rounds few in
    lines_pass [] (gen_lines number rounds) (all_pass number rounds few (formed_lines lines (gen_lines number rounds) read)) lines read
