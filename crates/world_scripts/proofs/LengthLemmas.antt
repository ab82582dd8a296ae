-- A script that is made of a number isn't long: each of its lines has at most 200 bytes, and a round at most 16 lines.
use Rattle.std.proofs.Common.{◌≤◌, ◌<◌, ◌+◌, ◌*◌, ℕ, zero, suc, List, [], ◌∷◌, ◌++◌, codes, drop, length, length-append, arith}
use Rattle.std.specs.Fmt.{decimal}
use Rattle.std.proofs.lemmas.Fmt.{length-decimal-le}
use Rattle.hex.specs.Hex.{encode_lower}
use Rattle.hex.proofs.HexLemmas.{length-encode_with}
use Rattle.rand_chacha.specs.ChaCha.{ChaCha}
use Rattle.world_scripts.specs.Draws.{draw, draws, generator_of}
use Rattle.world_scripts.specs.Pieces.{Spelled, Whole}
use Rattle.world_scripts.specs.Lines.{ScriptLine, Open, Start, Read, Write, Answer, NoAnswer, AsGive, Close}
use Rattle.world_scripts.specs.declared.round.Drawn.{Drawn}
use Rattle.world_scripts.specs.declared.round.Kind.{Kind}
use Rattle.world_scripts.specs.declared.round.Kind.TheVariants.{Honest, Replayed, Unanswered, Blank}
use Rattle.world_scripts.specs.Rounds.{answering, challenging, client_of, client_tuple, ending, gives, kind_of, middle, recorded, round_lines, server_of, server_tuple, session_of, starting, zeros}
use Rattle.world_scripts.specs.Generated.{drawn, gen_text, line, lines_text, opening, rounds_from, word}

-- ---- words of eight bytes

abbrev AreShort : List (List ℕ) → Type 0
AreShort [] = Unit {0}
AreShort (w ∷ words) = (length w ≤ 8) × AreShort words

drawn_short : (count : ℕ) (rng : ChaCha) → AreShort (draws count rng)
drawn_short zero rng = tt
drawn_short (suc count) rng = (omega arith, drawn_short count (draw rng).1)

short_behind : (n : ℕ) (words : List (List ℕ)) → AreShort words → AreShort (drop n words)
short_behind zero words s = s
short_behind (suc n) [] s = tt
short_behind (suc n) (w ∷ words) s = short_behind n words s.1

short_at : (n : ℕ) (words : List (List ℕ)) → AreShort words → length (word n words) ≤ 8
short_at n [] s = omega arith
short_at zero (w ∷ words) s = s.0
short_at (suc n) (w ∷ words) s = short_at n words s.1

-- the words of a round
record IsShort (d : Drawn) : Type 0 where
  client : length d.client ≤ 8
  server : length d.server ≤ 8
  first : length d.first ≤ 8
  second : length d.second ≤ 8
  third : length d.third ≤ 8

round_short : (words : List (List ℕ)) → AreShort words → IsShort (drawn words)
round_short words s = record { client = short_at 0 words s; server = short_at 1 words s; first = short_at 2 words s; second = short_at 3 words s; third = short_at 4 words s }

-- ---- lines

digits_of : (bytes : List ℕ) → length bytes ≤ 8 → length (encode_lower bytes) ≤ 16
digits_of bytes few = omega (arith, few, length-encode_with (codes "0123456789abcdef") bytes)

number_short : (n : ℕ) → n < 100000 → length (decimal n) ≤ 5
number_short n few = length-decimal-le 5 n (omega arith) (omega (arith, few)) (omega (arith, few))

open_short : (node conv : List ℕ) → length node ≤ 1 → length conv ≤ 6 → length (line (Open node conv)) ≤ 200
unfolding line
open_short node conv n c = omega (arith, n, c, length-append (node ++ 32 ∷ conv) (10 ∷ []), length-append node (32 ∷ conv))

start_short : (conv random tuple : List ℕ) → length conv ≤ 6 → length random ≤ 8 → length tuple ≤ 50 → length (line (Start conv random tuple)) ≤ 200
unfolding line
start_short conv random tuple c r t =
    omega (arith, c, digits_of random r, t, length-append (conv ++ 32 ∷ (encode_lower random ++ 32 ∷ tuple)) (10 ∷ []), length-append conv (32 ∷ (encode_lower random ++ 32 ∷ tuple)), length-append (encode_lower random) (32 ∷ tuple))

read_short : (conv : List ℕ) → length conv ≤ 6 → length (line (Read conv)) ≤ 200
unfolding line
read_short conv c = omega (arith, c, length-append conv (10 ∷ []))

close_short : (conv : List ℕ) → length conv ≤ 6 → length (line (Close conv)) ≤ 200
unfolding line
close_short conv c = omega (arith, c, length-append conv (10 ∷ []))

no_answer_short : (conv : List ℕ) → length conv ≤ 6 → length (line (NoAnswer conv)) ≤ 200
unfolding line
no_answer_short conv c = omega (arith, c, length-append conv (10 ∷ []))

gives_short : (conv : List ℕ) (message : ℕ) → length conv ≤ 6 → message < 100000 → length (line (gives conv message)) ≤ 200
unfolding line
gives_short conv message c m = omega (arith, c, number_short message m, length-append (conv ++ 32 ∷ 109 ∷ decimal message) (10 ∷ []), length-append conv (32 ∷ 109 ∷ decimal message))

answer_short : (conv : List ℕ) (message : ℕ) → length conv ≤ 6 → message < 100000 → length (line (Answer conv (Whole (decimal message) ∷ []))) ≤ 200
unfolding line
answer_short conv message c m = omega (arith, c, number_short message m, length-append (conv ++ 32 ∷ 109 ∷ decimal message) (10 ∷ []), length-append conv (32 ∷ 109 ∷ decimal message))

blank_short : (conv : List ℕ) → length conv ≤ 6 → length (line (Write conv (Spelled zeros ∷ []))) ≤ 200
unfolding line
blank_short conv c = omega (arith, c, length-append (conv ++ 32 ∷ 120 ∷ zeros) (10 ∷ []), length-append conv (32 ∷ 120 ∷ zeros))

asked_short : (session : List ℕ) (message : ℕ) (first second third : List ℕ) → length session ≤ 6 → message < 100000 → length first ≤ 8 → length second ≤ 8 → length third ≤ 8
    → length (line (AsGive session (Whole (decimal message) ∷ []) first second third)) ≤ 200
unfolding line
asked_short session message first second third s m a b c =
    let three : List ℕ = encode_lower third in
    let two : List ℕ = encode_lower second ++ 32 ∷ three in
    let one : List ℕ = encode_lower first ++ 32 ∷ two in
    let asks : List ℕ = 109 ∷ decimal message in
    omega (
      arith,
      s,
      number_short message m,
      digits_of first a,
      digits_of second b,
      digits_of third c,
      length-append (session ++ 32 ∷ (asks ++ 32 ∷ one)) (10 ∷ []),
      length-append session (32 ∷ (asks ++ 32 ∷ one)),
      length-append (decimal message) (32 ∷ one),
      length-append (encode_lower first) (32 ∷ two),
      length-append (encode_lower second) (32 ∷ three),
    )

-- ---- lists of lines

abbrev AllShort : List ScriptLine → Type 0
AllShort [] = Unit {0}
AllShort (l ∷ lines) = (length (line l) ≤ 200) × AllShort lines

short_both : (front back : List ScriptLine) → AllShort front → AllShort back → AllShort (front ++ back)
short_both [] back f b = b
short_both (l ∷ front) back f b = (f.0, short_both front back f.1 b)

text_short : (lines : List ScriptLine) → AllShort lines → length (lines_text lines) ≤ 200 * length lines
text_short [] s = omega arith
text_short (l ∷ lines) s = omega (arith, s.0, text_short lines s.1, length-append (line l) (lines_text lines))

opening_short : AllShort opening
unfolding line
opening_short = (omega arith, (omega arith, (omega arith, (omega arith, (omega arith, (omega arith, tt))))))

-- ---- a round

module _ (round before first : ℕ) (d : Drawn) (few : round < 100000) (old : before + 6 < 100000) (new : first + 6 < 100000) (s : IsShort d) where
  name_short : length (decimal round) ≤ 5
  name_short = number_short round few

  starting_short : AllShort (starting round d)
  unfolding client_tuple server_tuple
  starting_short = (
    open_short (codes "a") (client_of round) (omega arith) (omega (arith, name_short)),
    (
      open_short (codes "b") (server_of round) (omega arith) (omega (arith, name_short)),
      (start_short (client_of round) d.client client_tuple (omega (arith, name_short)) s.client (omega arith), (start_short (server_of round) d.server server_tuple (omega (arith, name_short)) s.server (omega arith), tt)),
    ),
  )

  challenging_short : AllShort (challenging round first)
  challenging_short = (
    read_short (client_of round) (omega (arith, name_short)),
    (
      gives_short (server_of round) first (omega (arith, name_short)) (omega (arith, new)),
      (read_short (server_of round) (omega (arith, name_short)), (gives_short (client_of round) (first + 1) (omega (arith, name_short)) (omega (arith, new)), tt)),
    ),
  )

  answering_short : AllShort (answering round first d)
  answering_short = (
    asked_short (session_of round) (first + 2) d.first d.second d.third (omega (arith, name_short)) (omega (arith, new)) s.first s.second s.third,
    (answer_short (client_of round) (first + 3) (omega (arith, name_short)) (omega (arith, new)), (read_short (client_of round) (omega (arith, name_short)), tt)),
  )

  middle_short : (kind : Kind) → AllShort (middle kind round before first d)
  middle_short Honest = short_both (answering round first d) (gives (server_of round) (first + 4) ∷ Read (server_of round) ∷ gives (client_of round) (first + 5) ∷ []) answering_short (
    gives_short (server_of round) (first + 4) (omega (arith, name_short)) (omega (arith, new)),
    (
      read_short (server_of round) (omega (arith, name_short)),
      (gives_short (client_of round) (first + 5) (omega (arith, name_short)) (omega (arith, new)), tt),
    ),
  )
  middle_short Replayed = short_both (answering round first d) (gives (server_of round) (before + 4) ∷ []) answering_short (gives_short (server_of round) (before + 4) (omega (arith, name_short)) (omega (arith, old)), tt)
  middle_short Unanswered = (no_answer_short (client_of round) (omega (arith, name_short)), tt)
  middle_short Blank = short_both (answering round first d) (Write (server_of round) (Spelled zeros ∷ []) ∷ []) answering_short (blank_short (server_of round) (omega (arith, name_short)), tt)

  ending_short : AllShort (ending round)
  ending_short = (close_short (client_of round) (omega (arith, name_short)), (close_short (server_of round) (omega (arith, name_short)), tt))

  lines_short : AllShort (round_lines round before first d)
  lines_short =
      let later : List ScriptLine = middle (kind_of round) round before first d ++ ending round in
      short_both (starting round d) (challenging round first ++ later) starting_short (short_both (challenging round first) later challenging_short
      (short_both (middle (kind_of round) round before first d) (ending round) (middle_short (kind_of round)) ending_short))

middle_few : (kind : Kind) (round before first : ℕ) (d : Drawn) → length (middle kind round before first d) ≤ 6
middle_few Honest round before first d = omega arith
middle_few Replayed round before first d = omega arith
middle_few Unanswered round before first d = omega arith
middle_few Blank round before first d = omega arith

round_few : (round before first : ℕ) (d : Drawn) → length (round_lines round before first d) ≤ 16
round_few round before first d = omega (arith, middle_few (kind_of round) round before first d, length-append (middle (kind_of round) round before first d) (ending round))

recorded_few : (kind : Kind) → recorded kind ≤ 6
recorded_few Honest = omega arith
recorded_few Replayed = omega arith
recorded_few Unanswered = omega arith
recorded_few Blank = omega arith

-- ---- a script

rounds_short : (n round before first : ℕ) (words : List (List ℕ)) → round + n ≤ 1000 → before ≤ 6 * round → first ≤ 6 * round → AreShort words → AllShort (rounds_from n round before first words)
rounds_short zero round before first words few old new s = tt
rounds_short (suc n) round before first words few old new s =
    short_both (round_lines round before first (drawn words)) (rounds_from n (round + 1) first (first + recorded (kind_of round)) (drop 5 words))
    (lines_short round before first (drawn words) (omega (arith, few)) (omega (arith, few, old)) (omega (arith, few, new)) (round_short words s))
    (rounds_short n (round + 1) first (first + recorded (kind_of round)) (drop 5 words) (omega (arith, few)) (omega (arith, new)) (omega (arith, new, recorded_few (kind_of round))) (short_behind 5 words s))

rounds_few : (n round before first : ℕ) (words : List (List ℕ)) → length (rounds_from n round before first words) ≤ 16 * n
rounds_few zero round before first words = omega arith
rounds_few (suc n) round before first words =
    omega (
      arith,
      round_few round before first (drawn words),
      rounds_few n (round + 1) first (first + recorded (kind_of round)) (drop 5 words),
      length-append (round_lines round before first (drawn words)) (rounds_from n (round + 1) first (first + recorded (kind_of round)) (drop 5 words)),
    )

pub script_short : (number rounds : ℕ) → rounds ≤ 1000 → length (gen_text number rounds) ≤ 4194304
unfolding gen_text
script_short number rounds few =
    let words : List (List ℕ) = draws (5 * rounds) (generator_of number) in
    let rest : List ScriptLine = rounds_from rounds 0 0 0 words in
    let all : AllShort (opening ++ rest) = short_both opening rest opening_short (rounds_short rounds 0 0 0 words (omega (arith, few)) (omega arith) (omega arith) (drawn_short (5 * rounds) (generator_of number))) in
    omega (arith, few, text_short (opening ++ rest) all, length-append opening rest, rounds_few rounds 0 0 0 words)
