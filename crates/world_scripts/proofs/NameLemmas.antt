-- The names in the rounds of a script that is made of a number: each is made before it is used, and once.
use Rattle.std.proofs.Common.{◌≡◌, ◌≤◌, ◌<◌, ◌+◌, ◌*◌, ◌^◌, ℕ, zero, suc, List, [], ◌∷◌, ◌++◌, append_assoc, codes, drop, length, filter, Bool, true, false, not, ◌==◌, ◌&&◌, ◌||◌, refl, sym, ap, subst, ◌∙◌, arith, inl, inr, if◌then◌else◌}
use Rattle.std.specs.Fmt.{decimal}
use Rattle.std.specs.List.{list_any}
use Rattle.std.specs.Str.{bytes_eq}
use Rattle.std.proofs.lemmas.Bool.{and_from, and_parts, cases_Bool, eq-eqb, eqb-true, not_from_false, or_from}
use Rattle.world_scripts.specs.Pieces.{number_in}
use Rattle.world_scripts.specs.Lines.{ScriptLine, Dom, AsKey, AsSpeak, Reload, Node, Restart, Ctl, Open, Start, Read, Write, Answer, NoAnswer, AsGive, Close}
use Rattle.world_scripts.specs.declared.round.Drawn.{Drawn}
use Rattle.world_scripts.specs.declared.round.Kind.{Kind}
use Rattle.world_scripts.specs.declared.round.Kind.TheVariants.{Honest, Replayed, Unanswered, Blank}
use Rattle.world_scripts.specs.Rounds.{challenging, client_of, ending, kind_of, middle, name, recorded, round_lines, server_of, starting}
use Rattle.world_scripts.specs.Generated.{drawn, rounds_from}
use Rattle.world_scripts.proofs.NumberLemmas.{number_again}

-- ---- names that are known

abbrev pub is_one : List ℕ → List (List ℕ) → Bool
is_one name names = list_any (λ other. bytes_eq other name) names

-- the nodes, the conversations that were opened, and those that are open
pub record Known : Type 0 where
  pub nodes : List (List ℕ)
  pub given : List (List ℕ)
  pub talking : List (List ℕ)

-- a line of a round takes names that are known, and gives new ones
abbrev pub knows : Known → ScriptLine → Bool
knows k (Dom dom) = false
knows k (AsKey tuple) = false
knows k (AsSpeak tuple) = false
knows k Reload = false
knows k (Node node) = false
knows k (Restart node) = false
knows k (Ctl node line) = false
knows k (Open node conv) = is_one node k.nodes && not (is_one conv k.given)
knows k (Start conv random tuple) = is_one conv k.talking
knows k (Read conv) = is_one conv k.talking
knows k (Write conv pieces) = is_one conv k.talking
knows k (Answer conv pieces) = is_one conv k.talking
knows k (NoAnswer conv) = is_one conv k.talking
knows k (AsGive session pieces first second third) = true
knows k (Close conv) = is_one conv k.talking

abbrev pub without : List ℕ → List (List ℕ) → List (List ℕ)
without name names = filter (λ other. not (bytes_eq other name)) names

abbrev pub behind : Known → ScriptLine → Known
behind k (Open node conv) = record { nodes = k.nodes; given = conv ∷ k.given; talking = k.talking ++ conv ∷ [] }
behind k (Close conv) = record { nodes = k.nodes; given = k.given; talking = without conv k.talking }
behind k line = k

abbrev pub all_behind : Known → List ScriptLine → Known
all_behind k [] = k
all_behind k (line ∷ more) = all_behind (behind k line) more

abbrev pub all_known : Known → List ScriptLine → Bool
all_known k [] = true
all_known k (line ∷ more) = knows k line && all_known (behind k line) more

known_both : (front back : List ScriptLine) (k : Known) → all_known k front ≡ true → all_known (all_behind k front) back ≡ true → all_known k (front ++ back) ≡ true
known_both [] back k f b = b
known_both (line ∷ front) back k f b =
    let both = and_parts (knows k line) (all_known (behind k line) front) f in
    and_from (knows k line) (all_known (behind k line) (front ++ back)) both.0 (known_both front back (behind k line) both.1 b)

-- ---- names that are the same, and others

same_name : (text : List ℕ) → bytes_eq text text ≡ true
same_name [] = refl
same_name (b ∷ text) = and_from (b == b) (bytes_eq text text) (eq-eqb b b refl) (same_name text)

are_equal : (one two : List ℕ) → bytes_eq one two ≡ true → one ≡ two
are_equal [] [] h = refl
are_equal [] (b ∷ two) h = absurd (let no_way : false ≡ true = h in cc)
are_equal (a ∷ one) [] h = absurd (let no_way : false ≡ true = h in cc)
are_equal (a ∷ one) (b ∷ two) h =
    let both = and_parts (a == b) (bytes_eq one two) h in
    ap (λ (n : ℕ). n ∷ one) (eqb-true a b both.0) ∙ ap (λ (l : List ℕ). b ∷ l) (are_equal one two both.1)

-- names of other rounds are others
other_round : (letter other round later : ℕ) → round < later → later < 2 ^ 64 → bytes_eq (name other round) (name letter later) ≡ false
other_round letter other round later before few = elim (cases_Bool (bytes_eq (name other round) (name letter later))) [
  | inl same ↦
      let digits : decimal round ≡ decimal later = are_equal (decimal round) (decimal later) (and_parts (other == letter) (bytes_eq (decimal round) (decimal later)) same).1 in
      let number : round ≡ later = sym (number_again round (omega (arith, before, few))).1 ∙ (ap number_in digits ∙ (number_again later few).1) in
      absurd (omega (arith, before, number))
  | inr differs ↦ differs
]

-- no name of a later round was given
abbrev IsBefore : ℕ → List (List ℕ) → Type 0
IsBefore round given = (letter later : ℕ) → round ≤ later → later < 2 ^ 64 → is_one (name letter later) given ≡ false

none_yet : IsBefore 0 []
none_yet letter later from few = refl

one_later : (round : ℕ) (given : List (List ℕ)) → IsBefore round given → IsBefore (round + 1) (server_of round ∷ client_of round ∷ given)
one_later round given h letter later from few =
    or_from (bytes_eq (server_of round) (name letter later)) (is_one (name letter later) (client_of round ∷ given)) (other_round letter 115 round later (omega (arith, from)) few)
    (or_from (bytes_eq (client_of round) (name letter later)) (is_one (name letter later) given) (other_round letter 99 round later (omega (arith, from)) few) (h letter later (omega (arith, from)) few))

-- ---- a round

-- between rounds both nodes are there, and nothing is open
abbrev pub between : List (List ℕ) → Known
between given = record { nodes = codes "b" ∷ codes "a" ∷ []; given = given; talking = [] }

module _ (round before first : ℕ) (d : Drawn) (given : List (List ℕ)) (new : IsBefore round given) (few : round < 2 ^ 64) where
  abbrev both_open : Known
  both_open = record { nodes = codes "b" ∷ codes "a" ∷ []; given = server_of round ∷ client_of round ∷ given; talking = client_of round ∷ server_of round ∷ [] }

  or_first : (x y : Bool) → x ≡ true → (x || y) ≡ true
  or_first true y h = refl
  or_first false y h = absurd (let no_way : false ≡ true = h in cc)

  client_open : is_one (client_of round) (client_of round ∷ server_of round ∷ []) ≡ true
  client_open = or_first (bytes_eq (client_of round) (client_of round)) (is_one (client_of round) (server_of round ∷ [])) (same_name (client_of round))

  server_open : is_one (server_of round) (client_of round ∷ server_of round ∷ []) ≡ true
  server_open = or_first (bytes_eq (server_of round) (server_of round)) false (same_name (server_of round))

  client_alone : is_one (client_of round) (client_of round ∷ []) ≡ true
  client_alone = or_first (bytes_eq (client_of round) (client_of round)) false (same_name (client_of round))

  starting_known : all_known (between given) (starting round d) ≡ true
  starting_known =
      and_from (not (is_one (client_of round) given)) _ (not_from_false (is_one (client_of round) given) (new 99 round (omega arith) few))
      (and_from (not (is_one (server_of round) given)) _ (not_from_false (is_one (server_of round) given) (new 115 round (omega arith) few))
      (and_from (is_one (client_of round) (client_of round ∷ server_of round ∷ [])) _ client_open (and_from (is_one (server_of round) (client_of round ∷ server_of round ∷ [])) true server_open refl)))

  challenging_known : all_known both_open (challenging round first) ≡ true
  challenging_known =
      and_from (is_one (client_of round) (client_of round ∷ server_of round ∷ [])) _ client_open
      (and_from (is_one (server_of round) (client_of round ∷ server_of round ∷ [])) _ server_open
      (and_from (is_one (server_of round) (client_of round ∷ server_of round ∷ [])) _ server_open (and_from (is_one (client_of round) (client_of round ∷ server_of round ∷ [])) true client_open refl)))

  middle_known : (kind : Kind) → all_known both_open (middle kind round before first d) ≡ true
  middle_known Honest =
      and_from (is_one (client_of round) (client_of round ∷ server_of round ∷ [])) _ client_open
      (and_from (is_one (client_of round) (client_of round ∷ server_of round ∷ [])) _ client_open
      (and_from (is_one (server_of round) (client_of round ∷ server_of round ∷ [])) _ server_open
      (and_from (is_one (server_of round) (client_of round ∷ server_of round ∷ [])) _ server_open (and_from (is_one (client_of round) (client_of round ∷ server_of round ∷ [])) true client_open refl))))
  middle_known Replayed =
      and_from (is_one (client_of round) (client_of round ∷ server_of round ∷ [])) _ client_open
      (and_from (is_one (client_of round) (client_of round ∷ server_of round ∷ [])) _ client_open (and_from (is_one (server_of round) (client_of round ∷ server_of round ∷ [])) true server_open refl))
  middle_known Unanswered = and_from (is_one (client_of round) (client_of round ∷ server_of round ∷ [])) true client_open refl
  middle_known Blank =
      and_from (is_one (client_of round) (client_of round ∷ server_of round ∷ [])) _ client_open
      (and_from (is_one (client_of round) (client_of round ∷ server_of round ∷ [])) _ client_open (and_from (is_one (server_of round) (client_of round ∷ server_of round ∷ [])) true server_open refl))

  middle_leaves : (kind : Kind) → all_behind both_open (middle kind round before first d) ≡ both_open
  middle_leaves Honest = refl
  middle_leaves Replayed = refl
  middle_leaves Unanswered = refl
  middle_leaves Blank = refl

  -- the client's is closed first
  left_alone : (one : Bool) → one ≡ true → (if not one then client_of round ∷ server_of round ∷ [] else server_of round ∷ []) ≡ server_of round ∷ []
  left_alone true h = refl
  left_alone false h = absurd (let no_way : false ≡ true = h in cc)

  none_left : (one : Bool) → one ≡ true → (if not one then server_of round ∷ [] else []) ≡ []
  none_left true h = refl
  none_left false h = absurd (let no_way : false ≡ true = h in cc)

  one_closed : without (client_of round) (client_of round ∷ server_of round ∷ []) ≡ server_of round ∷ []
  one_closed = left_alone (bytes_eq (client_of round) (client_of round)) (same_name (client_of round))

  both_closed : without (server_of round) (server_of round ∷ []) ≡ []
  both_closed = none_left (bytes_eq (server_of round) (server_of round)) (same_name (server_of round))

  abbrev talking_with : List (List ℕ) → Known
  talking_with talking = record { nodes = codes "b" ∷ codes "a" ∷ []; given = server_of round ∷ client_of round ∷ given; talking = talking }

  ending_known : all_known both_open (ending round) ≡ true
  ending_known = and_from (is_one (client_of round) (client_of round ∷ server_of round ∷ [])) _ client_open
      (and_from (is_one (server_of round) (without (client_of round) (client_of round ∷ server_of round ∷ []))) true
      (ap (λ (names : List (List ℕ)). is_one (server_of round) names) one_closed ∙ or_first (bytes_eq (server_of round) (server_of round)) false (same_name (server_of round))) refl)

  ending_leaves : all_behind both_open (ending round) ≡ between (server_of round ∷ client_of round ∷ given)
  ending_leaves = ap (λ (names : List (List ℕ)). talking_with (without (server_of round) names)) one_closed ∙ ap talking_with both_closed

  -- the parts of a round, one behind the other
  parted : (rest : List ScriptLine)
      → round_lines round before first d ++ rest ≡ starting round d ++ (challenging round first ++ (middle (kind_of round) round before first d ++ (ending round ++ rest)))
  parted rest = ap (λ (lines : List ScriptLine). starting round d ++ (challenging round first ++ lines)) (append_assoc (middle (kind_of round) round before first d) (ending round) rest)

  round_known : (rest : List ScriptLine) → all_known (between (server_of round ∷ client_of round ∷ given)) rest ≡ true → all_known (between given) (round_lines round before first d ++ rest) ≡ true
  round_known rest h =
      let kind : Kind = kind_of round in
      let last : all_known both_open (ending round ++ rest) ≡ true = known_both (ending round) rest both_open ending_known (subst (λ (k : Known). all_known k rest ≡ true) (sym ending_leaves) h) in
      let mid : all_known both_open (middle kind round before first d ++ (ending round ++ rest)) ≡ true = known_both (middle kind round before first d) (ending round ++ rest) both_open (middle_known kind) (subst (λ (k : Known). all_known k (ending round ++ rest) ≡ true) (sym (middle_leaves kind)) last) in
      let two : all_known both_open (challenging round first ++ (middle kind round before first d ++ (ending round ++ rest))) ≡ true = known_both (challenging round first) (middle kind round before first d ++ (ending round ++ rest)) both_open challenging_known mid in
      subst (λ (lines : List ScriptLine). all_known (between given) lines ≡ true) (sym (parted rest)) (known_both (starting round d) (challenging round first ++ (middle kind round before first d ++ (ending round ++ rest))) (between given) starting_known two)

-- ---- rounds

pub rounds_known : (n round before first : ℕ) (words : List (List ℕ)) (given : List (List ℕ)) → IsBefore round given → round + n < 2 ^ 64 → all_known (between given) (rounds_from n round before first words) ≡ true
rounds_known zero round before first words given new few = refl
rounds_known (suc n) round before first words given new few =
    round_known round before first (drawn words) given new (omega (arith, few)) (rounds_from n (round + 1) first (first + recorded (kind_of round)) (drop 5 words))
    (rounds_known n (round + 1) first (first + recorded (kind_of round)) (drop 5 words) (server_of round ∷ client_of round ∷ given) (one_later round given new) (omega (arith, few)))

-- from the first one on, where nothing was given yet
pub made_known : (rounds : ℕ) (words : List (List ℕ)) → rounds < 2 ^ 64 → all_known (between []) (rounds_from rounds 0 0 0 words) ≡ true
made_known rounds words few = rounds_known rounds 0 0 0 words [] none_yet (omega (arith, few))
