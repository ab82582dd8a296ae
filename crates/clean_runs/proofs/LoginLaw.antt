-- The login's record is clean.
use Rattle.std.proofs.Common.{◌≡◌, ℕ, zero, suc, ◌<◌, List, [], ◌∷◌, length, Bool, Option, None, Some, true, false, inl, inr, refl, sym, subst, arith}
use Rattle.std.proofs.lemmas.Bool.{cases_Bool}
use Rattle.std.proofs.lemmas.List.Elements.{All-take}
use Rattle.std.proofs.lemmas.Slice.Eq.{bytes_eq-Decides}
use Rattle.std.specs.Prelude.{option_map}
use Rattle.std.specs.Str.{bytes_eq}
use Rattle.auth_tables.specs.Keys.{UserKey}
use Rattle.symbolic_runs.specs.Trees.{long_key}
use Rattle.symbolic_runs.specs.Spellings.{Atoms}
use Rattle.roles.specs.declared.key.SkKey.{SkKey}
use Rattle.symbolic_runs.specs.Moves.{Role, client, server, mail_client, mail_server}
use Rattle.wire_histories.specs.Legal.{Spoken}
use Rattle.clean_runs.specs.Clean.{GivesBytes, GivesSevens, ReadsHolder, ReadsKept, ReadsPassword, ReadsSpoken, ReadsStep, ReadsTables, Reads, is_challenge, is_key, is_nonce, is_password}
use Rattle.clean_runs.specs.KeyNames.{key_in}
use Rattle.clean_runs.proofs.KeyNameLaws.{first_name, none_in}
use Rattle.clean_runs.proofs.Bytes.{digits_small}
use Rattle.clean_runs.specs.Login.{HasKey, Secrets, Word, ann, conv_c, conv_s, key_bytes, labelling, login, login_setting, reading, srv, tables, user_key, word_bytes}
use Rattle.clean_runs.specs.ExampleStatements.{AreBytes, AreFresh, LoginIsClean}
use Rattle.clean_runs.proofs.Forms.{forms}
use Rattle.clean_runs.proofs.Taken.{labels}
use Rattle.clean_runs.proofs.LoginPlaces.{Everywhere, everywhere}
use Rattle.clean_runs.proofs.Readings.{any_two, apart, so_of_each}

-- ---- what is read

seven : (w : Word) → AreBytes (word_bytes w) → AreBytes (key_bytes w)
seven w h = All-take (λ n. n < 256) 7 (word_bytes w) h

pub gives : (k : Secrets) → AreFresh k → GivesBytes (reading k)
gives k f = so_of_each (λ t b. AreBytes b) (reading k) (f.client, (f.server, (digits_small (word_bytes k.first), (seven k.first f.first, (seven k.second f.second, (seven k.third f.third, (seven k.ann_key f.ann_key, (seven k.srv_key f.srv_key, (f.ann_password, (f.srv_password, tt))))))))))

pub sevens : (k : Secrets) → GivesSevens (reading k)
sevens k key b is read = so_of_each (λ t b. is_key t ≡ true → length b ≡ 7) (reading k) ((λ e. absurd (cc)), ((λ e. absurd (cc)), ((λ e. absurd (cc)), ((λ e. refl), ((λ e. refl), ((λ e. refl), ((λ e. refl), ((λ e. refl), ((λ e. absurd (cc)), ((λ e. absurd (cc)), tt)))))))))) key b read is

pub words : (k : Secrets) → Everywhere (ReadsStep (reading k)) (login k)
words k = (tt, (tt, (tt, (tt, (tt, (tt, (tt, (tt, (record { digits = refl; shared = refl; for_server = refl; for_client = refl }, (tt, (tt, (tt, (tt, (tt, (tt, (tt, (tt, (tt, (refl, (refl, tt))))))))))))))))))))

-- a role whose key is a DES key
abbrev uses_key : Role → Bool
uses_key client = true
uses_key server = true
uses_key (mail_client kind) = false
uses_key (mail_server kind) = false

-- the key that is kept is read as that of its holder
kept_reads : (atoms : Atoms) (role : Role) (holder key : List ℕ) (kept : Option (SkKey × Option (List ℕ))) → uses_key role ≡ true → Reads atoms (long_key holder) key → option_map (λ kept. kept.0.des.0) kept ≡ Some key → ReadsKept atoms role holder kept
kept_reads atoms role holder key None uses is same = tt
kept_reads atoms client holder key (Some (k, secret)) uses is same = (let des : key ≡ k.des.0 = cc in subst (λ (x : List ℕ). Reads atoms (long_key holder) x) des is)
kept_reads atoms server holder key (Some (k, secret)) uses is same = (let des : key ≡ k.des.0 = cc in subst (λ (x : List ℕ). Reads atoms (long_key holder) x) des is)
kept_reads atoms (mail_client kind) holder key (Some (k, secret)) uses is same = absurd (cc)
kept_reads atoms (mail_server kind) holder key (Some (k, secret)) uses is same = absurd (cc)

spoken_reads : (atoms : Atoms) (role : Role) (holder : List ℕ) (key : Word) (o : Option Spoken) → uses_key role ≡ true → Reads atoms (long_key holder) (key_bytes key) → HasKey key o → ReadsSpoken atoms role holder o
spoken_reads atoms role holder key None uses is has = tt
spoken_reads atoms role holder key (Some spoken) uses is has = kept_reads atoms role holder (key_bytes key) spoken.key uses is has

pub holders : (k : Secrets) (spoken : List ℕ → Option Spoken) → HasKey k.ann_key (spoken conv_c) → HasKey k.srv_key (spoken conv_s) → Everywhere (ReadsHolder (reading k) (login_setting k spoken) labelling) (login k)
holders k spoken has_ann has_srv = (tt, (tt, (tt, (tt, (tt, (tt, (tt, (tt, (tt, (tt, (tt, (tt, (tt, (tt, (tt, (tt, (tt, (tt, (spoken_reads (reading k) server srv k.srv_key (spoken conv_s) refl refl has_srv, (spoken_reads (reading k) client ann k.ann_key (spoken conv_c) refl refl has_ann, tt))))))))))))))))))))

-- ---- the table

pub entry : (k : Secrets) (name user : List ℕ) (at : Word) (secret : List ℕ) (key : UserKey) → name ≡ user → user_key at secret ≡ key
    → Reads (reading k) (long_key user) (key_bytes at) × ReadsPassword (reading k) user (Some secret) → Reads (reading k) (long_key name) key.des × ReadsPassword (reading k) name key.password
entry k name user at secret key named is h = subst (λ (n : List ℕ). Reads (reading k) (long_key n) key.des × ReadsPassword (reading k) n key.password) (sym named) (subst (λ (u : UserKey). Reads (reading k) (long_key user) u.des × ReadsPassword (reading k) user u.password) is h)

pub read_first : (k : Secrets) (name : List ℕ) (key : UserKey) → key_in (tables k ∷ []) 0 name ≡ Some key → Reads (reading k) (long_key name) key.des × ReadsPassword (reading k) name key.password
read_first k name key is = elim (cases_Bool (bytes_eq name ann)) [
  | inl first ↦ (
      let here : Some (user_key k.ann_key k.ann_password) ≡ Some key = rw first at is in
      entry k name ann k.ann_key k.ann_password key ((bytes_eq-Decides name ann).0 first) (let same : user_key k.ann_key k.ann_password ≡ key = cc in same) (refl, refl))
  | inr not_first ↦ elim (cases_Bool (bytes_eq name srv)) [
    | inl second ↦ (
        let here : Some (user_key k.srv_key k.srv_password) ≡ Some key = rw (not_first, second) at is in
        entry k name srv k.srv_key k.srv_password key ((bytes_eq-Decides name srv).0 second) (let same : user_key k.srv_key k.srv_password ≡ key = cc in same) (refl, refl))
    | inr other ↦ absurd (let nothing : None ≡ Some key = rw (not_first, other) at is in cc)
  ]
]

tables_read : (k : Secrets) (spoken : List ℕ → Option Spoken) → ReadsTables (reading k) (login_setting k spoken)
tables_read k spoken zero name key is = subst (λ (n : List ℕ). Reads (reading k) (long_key n) key.des × ReadsPassword (reading k) n key.password) (sym (first_name (tables k ∷ []) name (key_in (tables k ∷ []) 0 name))) (read_first k name key is)
tables_read k spoken (suc number) name key is = absurd (none_in number name key is)

-- ---- all of it

pub login_is_clean : LoginIsClean
login_is_clean k spoken f has_ann has_srv = record {
  short = omega arith;
  bytes = gives k f;
  sevens = sevens k;
  words = everywhere (ReadsStep (reading k)) (login k) (words k);
  tables = tables_read k spoken;
  holders = everywhere (ReadsHolder (reading k) (login_setting k spoken) labelling) (login k) (holders k spoken has_ann has_srv);
  nonces_apart = apart is_nonce (reading k) (any_two is_nonce (reading k) f.words);
  challenges_apart = apart is_challenge (reading k) (any_two is_challenge (reading k) (tt, tt));
  keys_apart = apart is_key (reading k) (any_two is_key (reading k) f.keys);
  passwords_apart = apart is_password (reading k) (any_two is_password (reading k) f.passwords);
  labels = labels k spoken;
  forms = forms k spoken;
}
