-- What an `authsrv` came to, and what is left where nothing stands in its way.
use Rattle.std.proofs.Common.{◌≡◌, ◌≤◌, ◌⊎◌, ◌∙◌, ℕ, List, length, true, false, Option, Some, None, refl, ap, sym, subst, inl, inr, arith}
use Rattle.auth_tables.specs.Keys.{bad_key_line}
use Rattle.auth_tables.specs.Speaks.{bad_speak_line, may_speak}
use Rattle.auth_server.specs.Answers.{Knowledge}
use Rattle.auth_server.specs.Standing.{Server, knowledge}
use Rattle.auth_server.specs.Serving.{EndsSo}
use Rattle.auth_server.proofs.CompleteLaws.{served_whole}
use Rattle.auth_program.specs.Statuses.{is_printable}
use Rattle.auth_server.specs.declared.serve.AuthEnd.{AuthEnd}
use Rattle.auth_server.specs.declared.serve.AuthEnd.TheVariants as ends
use Rattle.auth_program.specs.declared.status.Status.{Status}
use Rattle.auth_program.specs.declared.status.Status.TheVariants.{Fine, Usage, ReadFault, WriteFault, WordFault, BadFrame, Torn, BadScript, BadTables, AsEnded, NoMemory, Flood}
use Rattle.auth_program.specs.declared.tables.Tables.{Tables}
use Rattle.auth_program.specs.Files.{FloodsFile, ReadsFile, most_file}
use Rattle.auth_program.specs.Serving.{IsServableAll, MeetsBadKeys, MeetsBadSpeaks, Outside, ReadsBoth, Serves, ServesSo, StopsAtTables, known_by}
use Rattle.auth_program.specs.Cores.{HasCore, StopsEarly}
use Rattle.auth_program.specs.Tabling.{HasParsed, HasRead, status_of_end}
use Rattle.auth_program.proofs.FileLemmas.{no_flood, told_file}

-- 1 for the two ends that are left, 0 for all others
abbrev end_number : AuthEnd → ℕ
end_number ends.End = 1
end_number ends.NoMemory = 1
end_number end = 0

-- tables tell what their files do
pub same_knowledge : (dom keys speaks : List ℕ) (tables : Tables) → HasParsed keys speaks tables
    → knowledge (record { dom = dom; keys = tables.keys; speaks = tables.speaks }) ≡ known_by dom keys speaks
same_knowledge dom keys speaks tables p = λ i. record {
  dom = dom;
  key = λ user. p.by_user user i;
  speaks = λ host user. may_speak (p.by_host host i) host user;
}

pub has_core : (dom : List ℕ) (tables : Tables) (core : Server) (keys_before keys_now speaks_before speaks_now : Option (List ℕ))
    → HasRead keys_before keys_now speaks_before speaks_now tables → core ≡ record { dom = dom; keys = tables.keys; speaks = tables.speaks }
    → HasCore dom keys_before keys_now speaks_before speaks_now core
has_core dom tables core kb kn sb sn r e = record {
  keys = r.keys;
  speaks = r.speaks;
  read_keys = r.read_keys;
  read_speaks = r.read_speaks;
  good_keys = r.parsed.good_keys;
  good_speaks = r.parsed.good_speaks;
  knows = ap knowledge e ∙ same_knowledge dom r.keys r.speaks tables r.parsed;
}

pub serves : (dom : List ℕ) (core : Server) (end : AuthEnd) (before now : Outside) → HasCore dom before.keys now.keys before.speaks now.speaks core
    → EndsSo (knowledge core) end before.client now.client → Serves dom end before now
serves dom core end before now r e = record {
  keys = r.keys;
  speaks = r.speaks;
  tables = (r.read_keys, r.read_speaks);
  good_keys = r.good_keys;
  good_speaks = r.good_speaks;
  ends = subst (λ (known : Knowledge). EndsSo known end before.client now.client) r.knows e;
}

pub serves_so : (dom : List ℕ) (end : AuthEnd) (before now : Outside) → Serves dom end before now → ServesSo dom (status_of_end end) before now
serves_so dom ends.End before now s = s
serves_so dom (ends.UnknownType at kind) before now s = s
serves_so dom (ends.Torn at) before now s = s
serves_so dom ends.TooManyWrong before now s = s
serves_so dom ends.ReadFault before now s = inr s
serves_so dom ends.WriteFault before now s = s
serves_so dom ends.WordFault before now s = s
serves_so dom ends.Flood before now s = inr (refl, s)
serves_so dom ends.NoMemory before now s = inr s

-- ---- an end before the client is looked at

pub early_serves : (dom : List ℕ) (status : Status) (before now : Outside) → StopsEarly status before now → ServesSo dom status before now
early_serves dom Fine before now s = absurd s
early_serves dom Usage before now s = absurd s
early_serves dom ReadFault before now s = inl s
early_serves dom WriteFault before now s = absurd s
early_serves dom WordFault before now s = absurd s
early_serves dom (BadFrame at size) before now s = absurd s
early_serves dom (Torn at) before now s = absurd s
early_serves dom (BadScript line cause) before now s = absurd s
early_serves dom (BadTables false line) before now s = s
early_serves dom (BadTables true line) before now s = s
early_serves dom (AsEnded end) before now s = absurd s
early_serves dom NoMemory before now s = inl s
early_serves dom (Flood limit) before now s = inl s

-- is neither of these
pub early_is_other : (status : Status) (before now : Outside) → StopsEarly status before now → (status ≡ WriteFault → ⊥) × (status ≡ WordFault → ⊥)
early_is_other status before now s = (λ e. subst (λ (it : Status). StopsEarly it before now) e s, λ e. subst (λ (it : Status). StopsEarly it before now) e s)

-- and has a line
pub early_printable : (status : Status) (before now : Outside) → StopsEarly status before now → is_printable status ≡ true
early_printable Fine before now s = refl
early_printable Usage before now s = refl
early_printable ReadFault before now s = refl
early_printable WriteFault before now s = refl
early_printable WordFault before now s = refl
early_printable (BadFrame at size) before now s = refl
early_printable (Torn at) before now s = refl
early_printable (BadScript line cause) before now s = refl
early_printable (BadTables speaks line) before now s = refl
early_printable (AsEnded end) before now s = absurd s
early_printable NoMemory before now s = refl
early_printable (Flood limit) before now s = refl

-- ---- what is told leaves two statuses

some_line : (line : ℕ) (o : Option ℕ) → o ≡ None → o ≡ Some line → ⊥
some_line line None e f = let g : None ≡ Some line = f in cc
some_line line (Some n) e f = let g : Some n ≡ None = e in cc

-- both tables are told, not too long and without a bad line
pub record TellsTables (before : Outside) : Type 0 where
  pub keys : List ℕ
  pub speaks : List ℕ
  pub keys_told : before.keys ≡ Some keys
  pub speaks_told : before.speaks ≡ Some speaks
  pub few_keys : length keys ≤ most_file
  pub few_speaks : length speaks ≤ most_file
  pub good_keys : bad_key_line keys ≡ None
  pub good_speaks : bad_speak_line speaks ≡ None

abbrev pub NoFault : AuthEnd → Type 0
NoFault end = (end ≡ ends.ReadFault → ⊥) × (end ≡ ends.WriteFault → ⊥) × (end ≡ ends.WordFault → ⊥)

-- what was served was served by the tables that are told, whose client comes to one of two ends
module _ (dom : List ℕ) (before now : Outside) (s : TellsTables before)
    (whole : (end : AuthEnd) → EndsSo (known_by dom s.keys s.speaks) end before.client now.client → NoFault end → (end ≡ ends.End) ⊎ (end ≡ ends.NoMemory)) where
  same_keys : (file : List ℕ) → ReadsFile before.keys now.keys file → s.keys ≡ file
  same_keys file r = told_file s.keys file before.keys now.keys s.keys_told r

  same_speaks : (file : List ℕ) → ReadsFile before.speaks now.speaks file → s.speaks ≡ file
  same_speaks file r = told_file s.speaks file before.speaks now.speaks s.speaks_told r

  whole_end : (end : AuthEnd) → Serves dom end before now → NoFault end → (end ≡ ends.End) ⊎ (end ≡ ends.NoMemory)
  whole_end end v none = whole end (rw (same_keys v.keys v.tables.0, same_speaks v.speaks v.tables.1) v.ends) none

  no_bad_keys : (line : ℕ) → MeetsBadKeys line before now → ⊥
  no_bad_keys line b = some_line line (bad_key_line b.keys) (subst (λ (k : List ℕ). bad_key_line k ≡ None) (same_keys b.keys b.tables.0) s.good_keys) b.bad

  no_bad_speaks : (line : ℕ) → MeetsBadSpeaks line before now → ⊥
  no_bad_speaks line b = some_line line (bad_speak_line b.speaks) (subst (λ (k : List ℕ). bad_speak_line k ≡ None) (same_speaks b.speaks b.tables.1) s.good_speaks) b.bad

  no_table_flood : StopsAtTables FloodsFile before now → ⊥
  no_table_flood (inl k) = no_flood s.keys before.keys now.keys s.keys_told s.few_keys k.keys
  no_table_flood (inr k) = no_flood s.speaks before.speaks now.speaks s.speaks_told s.few_speaks k.speaks

  no_other : (end : AuthEnd) → ((end ≡ ends.End) ⊎ (end ≡ ends.NoMemory)) → end_number end ≡ 0 → ⊥
  no_other end (inl e) n = absurd (let f : 1 ≡ 0 = sym (ap end_number e) ∙ n in omega (arith, f))
  no_other end (inr e) n = absurd (let f : 1 ≡ 0 = sym (ap end_number e) ∙ n in omega (arith, f))

  pub served_by_tables : (status : Status) → ServesSo dom status before now → (status ≡ ReadFault → ⊥) → (status ≡ WriteFault → ⊥) → (status ≡ WordFault → ⊥) → (status ≡ Fine) ⊎ (status ≡ NoMemory)
  served_by_tables Fine v read write word = inl refl
  served_by_tables Usage v read write word = absurd v
  served_by_tables ReadFault v read write word = absurd (read refl)
  served_by_tables WriteFault v read write word = absurd (write refl)
  served_by_tables WordFault v read write word = absurd (word refl)
  served_by_tables (BadFrame at size) v read write word = absurd v
  served_by_tables (Torn at) v read write word = absurd (no_other (ends.Torn at) (whole_end (ends.Torn at) v (λ e. cc, λ e. cc, λ e. cc)) refl)
  served_by_tables (BadScript line cause) v read write word = absurd v
  served_by_tables (BadTables false line) v read write word = absurd (no_bad_keys line v)
  served_by_tables (BadTables true line) v read write word = absurd (no_bad_speaks line v)
  served_by_tables (AsEnded ends.End) v read write word = absurd v
  served_by_tables (AsEnded (ends.UnknownType at kind)) v read write word = absurd (no_other (ends.UnknownType at kind) (whole_end (ends.UnknownType at kind) v (λ e. cc, λ e. cc, λ e. cc)) refl)
  served_by_tables (AsEnded (ends.Torn at)) v read write word = absurd v
  served_by_tables (AsEnded ends.TooManyWrong) v read write word = absurd (no_other ends.TooManyWrong (whole_end ends.TooManyWrong v (λ e. cc, λ e. cc, λ e. cc)) refl)
  served_by_tables (AsEnded ends.ReadFault) v read write word = absurd v
  served_by_tables (AsEnded ends.WriteFault) v read write word = absurd v
  served_by_tables (AsEnded ends.WordFault) v read write word = absurd v
  served_by_tables (AsEnded ends.Flood) v read write word = absurd v
  served_by_tables (AsEnded ends.NoMemory) v read write word = absurd v
  served_by_tables NoMemory v read write word = inr refl
  served_by_tables (Flood limit) (inl f) read write word = absurd (no_table_flood f.1)
  served_by_tables (Flood limit) (inr f) read write word = absurd (no_other ends.Flood (whole_end ends.Flood f.1 (λ e. cc, λ e. cc, λ e. cc)) refl)

abbrev pub tables_of : (dom : List ℕ) (before : Outside) → IsServableAll dom before → TellsTables before
tables_of dom before s = record {
  keys = s.keys;
  speaks = s.speaks;
  keys_told = s.keys_told;
  speaks_told = s.speaks_told;
  few_keys = s.few_keys;
  few_speaks = s.few_speaks;
  good_keys = s.good_keys;
  good_speaks = s.good_speaks;
}

pub served_to_end : (dom : List ℕ) (before now : Outside) → IsServableAll dom before → (status : Status) → ServesSo dom status before now → (status ≡ ReadFault → ⊥) → (status ≡ WriteFault → ⊥) → (status ≡ WordFault → ⊥) → (status ≡ Fine) ⊎ (status ≡ NoMemory)
served_to_end dom before now s = served_by_tables dom before now (tables_of dom before s) (λ end e none. served_whole (known_by dom s.keys s.speaks) before.client now.client s.client end e none.0 none.1 none.2)

-- ---- each status has a line

pub served_printable : (dom : List ℕ) (status : Status) (before now : Outside) → ServesSo dom status before now → is_printable status ≡ true
served_printable dom Fine before now v = refl
served_printable dom Usage before now v = refl
served_printable dom ReadFault before now v = refl
served_printable dom WriteFault before now v = refl
served_printable dom WordFault before now v = refl
served_printable dom (BadFrame at size) before now v = refl
served_printable dom (Torn at) before now v = refl
served_printable dom (BadScript line cause) before now v = refl
served_printable dom (BadTables speaks line) before now v = refl
served_printable dom (AsEnded ends.End) before now v = absurd v
served_printable dom (AsEnded (ends.UnknownType at kind)) before now v = refl
served_printable dom (AsEnded (ends.Torn at)) before now v = absurd v
served_printable dom (AsEnded ends.TooManyWrong) before now v = refl
served_printable dom (AsEnded ends.ReadFault) before now v = absurd v
served_printable dom (AsEnded ends.WriteFault) before now v = absurd v
served_printable dom (AsEnded ends.WordFault) before now v = absurd v
served_printable dom (AsEnded ends.Flood) before now v = absurd v
served_printable dom (AsEnded ends.NoMemory) before now v = absurd v
served_printable dom NoMemory before now v = refl
served_printable dom (Flood limit) before now v = refl
