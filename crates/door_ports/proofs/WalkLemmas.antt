-- The names and the texts of requests.
use Rattle.std.proofs.Common.{◌≡◌, ℕ, ◌<◌, ◌^◌, List, [], ◌∷◌, ◌++◌, length, refl, ap, subst, sym, arith}
use Rattle.std.specs.Prelude.{codes}
use Rattle.nine.specs.declared.message.TBody.TheVariants as t
use Rattle.nine.specs.Messages.{frame, t_frame}
use Rattle.door_ports.specs.declared.frames.File.{File}
use Rattle.door_ports.specs.declared.frames.File.TheVariants.{Ctl, Rpc}
use Rattle.door_ports.specs.Files.{file_name}
use Rattle.door_ports.specs.Exchanges.{attaches, no_fid, under, walks}

-- the way to a file, put together name by name
abbrev way : File → List (List ℕ)
way file = codes "factotum" ∷ file_name file ∷ []

pub both_names : (none one two : List (List ℕ)) (x y : List ℕ) (file : File) → none ≡ [] → one ≡ none ++ x ∷ [] → two ≡ one ++ y ∷ [] → x ≡ codes "factotum" → y ≡ file_name file → two ≡ way file
both_names none one two x y file e f g h i = rw (g, f, e, h, i) refl

way_short : (fid : ℕ) (file : File) → length (t_frame (record { tag = 0; body = t.Walk 0 fid (way file) })) < 2 ^ 32
unfolding frame
way_short fid Ctl = omega arith
way_short fid Rpc = omega arith

pub walk_short : (fid : ℕ) (names : List (List ℕ)) (file : File) → names ≡ way file → length (t_frame (record { tag = 0; body = t.Walk 0 fid names })) < 2 ^ 32
walk_short fid names file is = subst (λ (n : List (List ℕ)). length (t_frame (record { tag = 0; body = t.Walk 0 fid n })) < 2 ^ 32) (sym is) (way_short fid file)

pub walk_is : (fid : ℕ) (names : List (List ℕ)) (file : File) → names ≡ way file → under 0 (t.Walk 0 fid names) ≡ walks fid (file_name file)
walk_is fid names file is = ap (λ (n : List (List ℕ)). under 0 (t.Walk 0 fid n)) is

-- who attaches
attach_long : length (t_frame (record { tag = 0; body = t.Attach 0 no_fid (codes "world") [] })) < 2 ^ 32
unfolding frame
attach_long = omega arith

pub attach_short : (uname aname : List ℕ) → uname ≡ codes "world" → aname ≡ [] → length (t_frame (record { tag = 0; body = t.Attach 0 no_fid uname aname })) < 2 ^ 32
attach_short uname aname e f = rw (e, f) attach_long

pub attach_is : (uname aname : List ℕ) → uname ≡ codes "world" → aname ≡ [] → under 0 (t.Attach 0 no_fid uname aname) ≡ attaches
attach_is uname aname e f = rw (e, f) refl
