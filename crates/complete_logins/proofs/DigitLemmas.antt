-- Lengths of digits and challenges, and the length that an answer tells in front of a challenge.
use Rattle.std.proofs.Common.{◌≡◌, ℕ, ◌+◌, ◌-◌, ◌<◌, List, [], ◌∷◌, ◌++◌, length, replicate, eqb, Bool, true, ◌&&◌, codes, decimal, refl, arith, length-append}
use Rattle.std.proofs.lemmas.Bool.{agree_below_at, and_parts, eqb-true}
use Rattle.std.specs.Fmt.{digits}
use Rattle.hex.specs.Hex.{encode_lower, encode_with, lower_digits}
use Rattle.md5.specs.Md5.{md5}
use Rattle.md5.proofs.StandardFacts.{length-md5}
use Rattle.sealing.specs.Answer.{apop_digits, cram_digits}
use Rattle.sealing.specs.Hmac.{hmac}
use Rattle.auth_server.specs.Answers.{challenge_at}
use Rattle.conv_challenge.specs.Clients.{digits_by}
use Rattle.conv_challenge.specs.Numbers.{told_length}
use Rattle.conv_challenge.specs.declared.stage.Proto.{Proto}
use Rattle.conv_challenge.specs.declared.stage.Proto.TheVariants.{Apop, Cram}

twice : (t bytes : List ℕ) → length (encode_with t bytes) ≡ length bytes + length bytes
unfolding encode_with
twice t [] = refl
twice t (b ∷ rest) = omega (arith, twice t rest)

length_hmac : (key text : List ℕ) → length (hmac key text) ≡ 16
unfolding hmac
length_hmac key text = length-md5 _

length_apop : (challenge password : List ℕ) → length (apop_digits challenge password) ≡ 32
unfolding apop_digits
length_apop challenge password = omega (arith, twice lower_digits (md5 (challenge ++ password)), length-md5 (challenge ++ password))

length_cram : (challenge password : List ℕ) → length (cram_digits challenge password) ≡ 32
unfolding cram_digits
length_cram challenge password = omega (arith, twice lower_digits (hmac password challenge), length_hmac password challenge)

pub length_digits : (proto : Proto) (challenge password : List ℕ) → length (digits_by proto challenge password) ≡ 32
length_digits Apop challenge password = length_apop challenge password
length_digits Cram challenge password = length_cram challenge password

pub length_challenge : (word dom : List ℕ) → length word ≡ 8 → length (challenge_at word dom) ≡ length dom + 19
unfolding challenge_at
length_challenge word dom long =
    let digits = twice lower_digits word in
    let a = codes "<" ++ encode_lower word in
    let b = a ++ codes "@" in
    let c = b ++ dom in
    omega (arith, long, digits, length-append (codes "<") (encode_lower word), length-append a (codes "@"), length-append b dom, length-append c (codes ">"))

-- a number in decimal with blanks behind it
abbrev pub counted_by : ℕ → List ℕ
counted_by n = decimal n ++ replicate (5 - length (decimal n)) 32

abbrev is_told : ℕ → Bool
is_told n = eqb (length (counted_by n)) 5 && eqb (told_length (counted_by n)) n

each_is_told : (n : ℕ) → n < 128 → is_told n ≡ true
unfolding told_length digits
each_is_told n few = agree_below_at is_told (λ n. true) 128 n refl few

pub length_counted : (n : ℕ) → n < 128 → length (counted_by n) ≡ 5
length_counted n few = eqb-true (length (counted_by n)) 5 (and_parts (eqb (length (counted_by n)) 5) (eqb (told_length (counted_by n)) n) (each_is_told n few)).0

pub counted_is_told : (n : ℕ) → n < 128 → told_length (counted_by n) ≡ n
counted_is_told n few = eqb-true (told_length (counted_by n)) n (and_parts (eqb (length (counted_by n)) 5) (eqb (told_length (counted_by n)) n) (each_is_told n few)).1
