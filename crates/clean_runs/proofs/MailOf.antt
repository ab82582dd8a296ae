-- The login by APOP as one whose messages all arrive.
use Rattle.std.proofs.Common.{◌<◌, [], Some, refl, arith, codes}
use Rattle.std.specs.Str.{is_utf8, chars}
use lib.Utf8.{encode}
use Rattle.std.proofs.lemmas.List.Elements.{All-nil, All-take}
use Rattle.wire_base.specs.Texts.{is_text}
use Rattle.attr_tuples.specs.Matching.{value_of}
use Rattle.sealing.specs.Fitting.{FitsName, IsBlock}
use Rattle.conv_challenge.specs.Starts.{proto_of, side_of}
use Rattle.complete_logins.specs.MailLogins.{MailLogin, MayMail}
use Rattle.wire_histories.specs.Legal.{known_at}
use Rattle.clean_runs.specs.Login.{Word, ann, key_bytes, key_of, srv, start_as, word_bytes}
use Rattle.clean_runs.specs.MailLogin.{Secrets, first_words, mail_key, setting, then_words}
use Rattle.clean_runs.specs.ExampleStatements.{AreBytes, AreFreshInMail}
use Rattle.clean_runs.proofs.Readings.{small}

abbrev pub of : Secrets → MailLogin
of k = record {
  client = start_as (codes "apop") (codes "client") k.client;
  client_key = mail_key k;
  password = k.ann_password;
  server = start_as (codes "apop") (codes "server") k.server;
  server_key = key_of srv k.srv_key;
  server_password = Some k.srv_password;
  user = ann;
  known = known_at (setting k) 0;
  before = [];
  words = first_words k;
  later_words = then_words k;
}

pub block_8 : (w : Word) → AreBytes (word_bytes w) → IsBlock 8 (word_bytes w)
block_8 w h = record { whole = refl; bytes = h }

pub block_7 : (w : Word) → AreBytes (word_bytes w) → IsBlock 7 (key_bytes w)
block_7 w h = record { whole = refl; bytes = All-take (λ n. n < 256) 7 (word_bytes w) h }

pub fits_ann : FitsName 28 ann
unfolding is_text is_utf8 chars encode
fits_ann = record { short = record { text = refl; short = omega arith }; bytes = small ann refl }

pub fits_srv : FitsName 28 srv
unfolding is_text is_utf8 chars encode
fits_srv = record { short = record { text = refl; short = omega arith }; bytes = small srv refl }

pub fits_x : FitsName 48 (codes "x")
unfolding is_text is_utf8 chars encode
fits_x = record { short = record { text = refl; short = omega arith }; bytes = small (codes "x") refl }

pub fits_none : FitsName 48 []
unfolding is_text is_utf8 chars encode
fits_none = record { short = record { text = refl; short = omega arith }; bytes = All-nil (λ n. n < 256) }

pub may : (k : Secrets) → AreFreshInMail k → MayMail (of k)
unfolding side_of proto_of value_of
may k f = record {
  client_side = refl;
  server_side = refl;
  same_proto = refl;
  server_word = block_8 k.server f.server;
  server_known = record { line = record { des = key_bytes k.srv_key; password = Some k.srv_password }; knows = refl; same = refl };
  unheld = refl;
  server_user = record { fits = fits_srv; some = omega arith };
  dom_name = fits_x.short;
  right = record { line = record { des = key_bytes k.ann_key; password = Some k.ann_password }; knows = refl; same = refl };
  user = record { fits = fits_ann; some = omega arith };
  user_form = refl;
  known_dom = refl;
  first_drawn = block_8 k.first f.first;
  then_drawn = block_8 k.fourth f.fourth;
}
