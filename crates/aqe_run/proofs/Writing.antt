-- The records and texts that a journal and a sink have grown by.
use Rattle.std.proofs.Common.{◌≡◌, ℕ, List, [], ◌∷◌, ◌++◌, take, Option, Some, None, sym, ap, subst, ◌∙◌}
use Rattle.std.proofs.lemmas.List.{append-nil, append_assoc}
use Rattle.std.specs.Io.KnownBytes.{Appends}
use Rattle.aqe_store.specs.Sink.{AppendsFront}
use Rattle.aqe_journal.specs.declared.record.QueryRecord.{QueryRecord}
use Rattle.aqe_course.specs.Course.{Query}
use Rattle.aqe_course.specs.Ending.{Leave, Left, Writes, WritesFront}
use Rattle.aqe_course.specs.Ending.Leave.{none, more}
use Rattle.aqe_answer.specs.Answer.{IsPrinted}

pub appends_none : (a : Option (List ℕ)) → Appends a a []
appends_none None = tt
appends_none (Some xs) = sym (append-nil xs)

pub appends_then : (a b c : Option (List ℕ)) (x y : List ℕ) → Appends a b x → Appends b c y → Appends a c (x ++ y)
appends_then None b c x y h k = tt
appends_then (Some xs) None c x y h k = absurd h
appends_then (Some xs) (Some ys) None x y h k = absurd k
appends_then (Some xs) (Some ys) (Some zs) x y h k = k ∙ ap (λ l. l ++ y) h ∙ append_assoc xs x y

leave_then : (qs rs : List Query) (ns ms : List QueryRecord) (x y : List ℕ) → Leave qs ns x → Leave rs ms y → Leave (qs ++ rs) (ns ++ ms) (x ++ y)
leave_then _ rs _ ms _ y none k = k
leave_then _ rs _ ms _ y (more q qs n ns text texts i t h) k =
    subst (Leave (q ∷ (qs ++ rs)) (n ∷ (ns ++ ms))) (sym (append_assoc text texts y)) (more q (qs ++ rs) n (ns ++ ms) text (texts ++ y) i t (leave_then qs rs ns ms texts y h k))

grown_then : (a b c ns ms : List QueryRecord) → b ≡ a ++ ns → c ≡ b ++ ms → c ≡ a ++ (ns ++ ms)
grown_then a b c ns ms h k = k ∙ ap (λ l. l ++ ms) h ∙ append_assoc a ns ms

pub writes_none : (a : Left) → Writes a a []
writes_none a = record { notes = []; texts = []; leave = none; recorded = sym (append-nil a.journal); written = appends_none a.taken }

pub writes_then : (a b c : Left) (qs rs : List Query) → Writes a b qs → Writes b c rs → Writes a c (qs ++ rs)
writes_then a b c qs rs h k = record {
  notes = h.notes ++ k.notes;
  texts = h.texts ++ k.texts;
  leave = leave_then qs rs h.notes k.notes h.texts k.texts h.leave k.leave;
  recorded = grown_then a.journal b.journal c.journal h.notes k.notes h.recorded k.recorded;
  written = appends_then a.taken b.taken c.taken h.texts k.texts h.written k.written;
}

-- the record and the text of one query
pub writes_one : (a b : Left) (q : Query) (text : List ℕ) → IsPrinted q a.journal b.journal text → Appends a.taken b.taken text → Writes a b (q ∷ [])
writes_one a b q text p s = record {
  notes = p.note ∷ [];
  texts = text ++ [];
  leave = more q [] p.note [] text [] p.is p.has none;
  recorded = p.grown;
  written = subst (Appends a.taken b.taken) (sym (append-nil text)) s;
}

pub front_then : (a b c : Left) (qs : List Query) (q : Query) (text : List ℕ) → Writes a b qs → IsPrinted q b.journal c.journal text → AppendsFront b.taken c.taken text → WritesFront a c qs q
front_then a b c qs q text h p (n, f) = record {
  notes = h.notes;
  texts = h.texts;
  leave = h.leave;
  note = p.note;
  text = text;
  n = n;
  is = p.is;
  has = p.has;
  recorded = grown_then a.journal b.journal c.journal h.notes (p.note ∷ []) h.recorded p.grown;
  written = appends_then a.taken b.taken c.taken h.texts (take n text) h.written f;
}
