-- The key that a password stands for (passtokey of Plan 9's authsrv(2)).
use Rattle.std.specs.Prelude.{ℕ, ◌+◌, ◌-◌, ◌*◌, ◌/◌, ◌%◌, ◌^◌, ◌==◌, nat_le, ◌||◌, List, [], ◌∷◌, ◌++◌, length, take, drop, map, replicate, slice_index, if◌then◌else◌}
use Rattle.std.specs.List.{range_with_len}
use Rattle.sealing.specs.Sealing.{changed_at, sealed}

-- the buffer of 28 bytes, eight blanks and then zeros, with the password written over its start and a
-- zero byte behind it
abbrev pub password_buffer : List ℕ → List ℕ
password_buffer password = password ++ 0 ∷ drop (length password + 1) (replicate 8 32 ++ replicate 20 0)

-- the key that eight bytes t make: byte i is (t[i] >> i) + (t[i + 1] << (7 - i)), modulo 256
unfoldable pub window_key : List ℕ → List ℕ
window_key t =
    map (λ i. (slice_index t i / 2 ^ i + slice_index t (i + 1) * 2 ^ (7 - i)) % 256) (range_with_len 0 7)

-- where the windows behind the first one begin, for a password of n bytes: at 8, 16 and so on as long as
-- eight of its bytes are left there, and then, where these don't reach its end, eight bytes before it
unfoldable pub window_starts : ℕ → List ℕ
window_starts n =
    map (λ k. 8 * k) (range_with_len 1 (n / 8 - 1))
    ++ (if nat_le n 8 || (n % 8 == 0) then [] else (n - 8) ∷ [])

-- the key after some windows: the eight bytes of each are sealed in place under the key so far, and the
-- next key is made from them
unfoldable pub key_after : List ℕ → List ℕ → List ℕ → List ℕ
key_after [] buffer key = key
key_after (at ∷ starts) buffer key =
    let next = changed_at (sealed key) buffer at in
    key_after starts next (window_key (drop at next))

-- the key that a password stands for; only its first 27 bytes count
unfoldable pub password_key : List ℕ → List ℕ
password_key password =
    let counted = take 27 password in
    let buffer = password_buffer counted in
    key_after (window_starts (length counted)) buffer (window_key buffer)
