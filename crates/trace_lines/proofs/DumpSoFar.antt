-- What was sent of an input so far, piece by piece.
use Rattle.std.proofs.Common.{◌≡◌, ℕ, ◌+◌, ◌<◌, ◌≤◌, List, [], ◌∷◌, ◌++◌, length, take, Option, Some, None}
use Rattle.std.proofs.Common.{Result, Ok, Err, IsErr, refl, sym, ap, subst, ◌∙◌, append-nil, append_assoc, arith, false}
use Rattle.std.proofs.lemmas.List.{length-append}
use Rattle.std.specs.Io.KnownBytes.{Consumes, Keeps, IsAtEnd}
use Rattle.std.specs.declared.io.ErrorKind.{ErrorKind}
use Rattle.trace_values.specs.Number.{AreBytes}
use Rattle.trace_values.specs.Sending.{Account, Took, TookOnly}
use Rattle.trace_values.proofs.FixedWidths.{AreBytes-right}
use Rattle.trace_values.proofs.TwoStepsOfWriter.{Took-join, TookOnly-none, TookOnly-join}
use Rattle.dial9_trace_format.specs.Feeding.{FeedState, greatest_fed, new_feed}
use Rattle.trace_lines.specs.Dumps.{failed_status, IsDump, BeginsDump, IsFrontOfDump, PrintsUpToFault}
use Rattle.trace_lines.specs.Program.{DumpsAll}
use Rattle.trace_lines.specs.declared.dump.DumpForm.TheVariants.{Frames}
use Rattle.trace_lines.specs.declared.dump.Reader.TheVariants.{Owned}
use Rattle.trace_lines.proofs.DumpStatuses.{dump_status}
use Rattle.trace_lines.proofs.DumpsSentInParts.{front_unsettled}
use Rattle.trace_lines.specs.parts.Sent.{Sends}
use Rattle.trace_lines.specs.PieceDumps.{DumpsFrontOfBytes, DumpsFrontOfRead, DumpsRead, ReadsWithin}
use Rattle.trace_lines.specs.parts.PieceDumps.{IsDumpRead, SendsRead, IsLeft, LinesCome, LinesEnd, LinesBegin}
use Rattle.trace_lines.specs.parts.PieceDumps.{IsWaiting, ArePieceLines, CountsPiece, SendsPiece}
use Rattle.trace_lines.proofs.PieceLines.{nothing_comes, come_further, end_further, left_exists, both_fit}

-- ---- what a reader tells

consumed_none : (known : Option (List ℕ)) → Consumes known known []
consumed_none None = tt
consumed_none (Some bytes) = refl

consumed_more :
    (a b c : Option (List ℕ)) (xs ys : List ℕ) → Consumes a b xs → Consumes b c ys → Consumes a c (xs ++ ys)
consumed_more None b c xs ys x y = tt
consumed_more (Some all) None c xs ys x y = absurd x
consumed_more (Some all) (Some rest) None xs ys x y = absurd y
consumed_more (Some all) (Some rest) (Some left) xs ys x y =
    x ∙ ap (λ (t : List ℕ). xs ++ t) y ∙ sym (append_assoc xs ys left)

kept_consumes : (a b : Option (List ℕ)) → Keeps a b → Consumes a b []
kept_consumes None b k = tt
kept_consumes (Some xs) None k = absurd k
kept_consumes (Some xs) (Some ys) k = sym k

consumed_none_more :
    (a b c : Option (List ℕ)) (xs : List ℕ) → Consumes a b xs → Consumes b c [] → Consumes a c xs
consumed_none_more a b c xs x y = subst (Consumes a c) (append-nil xs) (consumed_more a b c xs [] x y)

-- all that a reader told, by what was read and what it has left
consumed_parts :
    (a b : Option (List ℕ)) (bytes read : List ℕ) → a ≡ Some bytes → Consumes a b read →
    (others : List ℕ) × (b ≡ Some others) × (bytes ≡ read ++ others)
consumed_parts None b bytes read e c = absurd cc
consumed_parts (Some all) None bytes read e c = absurd c
consumed_parts (Some all) (Some left) bytes read e c = (left, refl, (let x : bytes ≡ all = cc in x) ∙ c)

at_end : (b : Option (List ℕ)) (others : List ℕ) → b ≡ Some others → IsAtEnd b → others ≡ []
at_end None others e h = absurd cc
at_end (Some xs) others e h = (let x : others ≡ xs = cc in x) ∙ h

-- ---- what was sent so far

-- lines of what was read so far went to a writer
pub record SentSoFar (a b : Account) (before after : Option (List ℕ)) (s : FeedState) : Type 0 where
  pub read : List ℕ
  pub sent : List ℕ
  pub took : TookOnly a b sent []
  pub consumed : Consumes before after read
  pub come : LinesCome new_feed read s sent
  pub waiting : IsWaiting s
  pub counted : length read ≡ s.fed_len
  pub few : length read ≤ greatest_fed

-- before the first piece nothing was sent
pub nothing_sent : (a : Account) (before : Option (List ℕ)) (s : FeedState) → s ≡ new_feed → IsWaiting s
    → SentSoFar a a before before s
nothing_sent a before s is w = record {
  read = [];
  sent = [];
  took = TookOnly-none a;
  consumed = consumed_none before;
  come = subst (λ (x : FeedState). LinesCome new_feed [] x []) (sym is) (nothing_comes new_feed);
  waiting = w;
  counted = sym (ap (λ (x : FeedState). x.fed_len) is);
  few = omega arith;
}

-- a read that gave nothing
pub nothing_read :
    {a b : Account} {before after : Option (List ℕ)} {s : FeedState} (last : Option (List ℕ)) →
    SentSoFar a b before after s → Keeps after last → SentSoFar a b before last s
nothing_read {before = before} {after} last h k = record {
  read = h.read;
  sent = h.sent;
  took = h.took;
  consumed = subst (Consumes before last) (append-nil h.read)
      (consumed_more before after last h.read [] h.consumed (kept_consumes after last k));
  come = h.come;
  waiting = h.waiting;
  counted = h.counted;
  few = h.few;
}

-- the count of all bytes that were read, and of a piece
count_with :
    {a b : Account} {before after : Option (List ℕ)} {s : FeedState} (piece : List ℕ) (h : SentSoFar a b before after s)
    → length (h.read ++ piece) ≡ s.fed_len + length piece
count_with piece h = length-append h.read piece ∙ ap (λ (n : ℕ). n + length piece) h.counted

-- a piece, and its lines
pub piece_sent :
    {a b c : Account} {before after : Option (List ℕ)} {s t : FeedState} (last : Option (List ℕ))
    (piece lines : List ℕ) → SentSoFar a b before after s → Consumes after last piece → CountsPiece s piece t →
    LinesCome s piece t lines × IsWaiting t → TookOnly b c lines [] → SentSoFar a c before last t
piece_sent {a} {b} {c} {before} {after} {s} {t} last piece lines h used counts (come, waiting) took = record {
  read = h.read ++ piece;
  sent = h.sent ++ lines;
  took = TookOnly-join a b c h.sent lines [] [] h.took took;
  consumed = consumed_more before after last h.read piece h.consumed used;
  come = come_further new_feed s t h.read piece h.sent lines h.come come;
  waiting = waiting;
  counted = count_with piece h ∙ sym counts.counted;
  few = omega (arith, count_with piece h, counts.few);
}

-- ---- the end

-- the dump of all, where the lines of a piece are the last
pub ends_within :
    {a b c : Account} {before after : Option (List ℕ)} {s t : FeedState} (last : Option (List ℕ))
    (piece lines : List ℕ) (status : ℕ) → SentSoFar a b before after s → Consumes after last piece →
    CountsPiece s piece t → LinesEnd s piece status lines → TookOnly b c lines [] →
    (text : List ℕ) × IsDumpRead before last status text × TookOnly a c text []
ends_within {a} {b} {c} {before} {after} {s} last piece lines status h used counts ends took =
    let read = h.read ++ piece in
    let all : LinesEnd new_feed read status (h.sent ++ lines) =
    end_further new_feed s h.read piece h.sent lines status h.come ends in (
      h.sent ++ lines,
      record {
        read = read;
        consumed = consumed_more before after last h.read piece h.consumed used;
        of_read = subst (λ (x : List ℕ). IsDump false x status (h.sent ++ lines)) (append-nil read) (all []);
        of_all = λ bytes e.
            let p = consumed_parts before last bytes read e
            (consumed_more before after last h.read piece h.consumed used) in
            subst (λ (x : List ℕ). IsDump false x status (h.sent ++ lines)) (sym p.2) (all p.0);
        few = omega (arith, count_with piece h, counts.few);
      },
      TookOnly-join a b c h.sent lines [] [] h.took took,
    )

-- the dump of all, where the input has ended
pub ends_after :
    {a b c : Account} {before after : Option (List ℕ)} {s : FeedState} (last : Option (List ℕ)) (text : List ℕ)
    (status : ℕ) → SentSoFar a b before after s → Consumes after last [] → IsAtEnd last →
    IsLeft s [] status text → TookOnly b c text [] →
    (whole : List ℕ) × IsDumpRead before last status whole × TookOnly a c whole []
ends_after {a} {b} {c} {before} {after} {s} last text status h used end is took =
    let all : IsDump false (h.read ++ []) status (h.sent ++ text) = h.come [] status text is in
    let of_read : IsDump false h.read status (h.sent ++ text) =
    subst (λ (x : List ℕ). IsDump false x status (h.sent ++ text)) (append-nil h.read) all in (
      h.sent ++ text,
      record {
        read = h.read;
        consumed = consumed_none_more before after last h.read h.consumed used;
        of_read = of_read;
        of_all = λ bytes e.
            let p = consumed_parts before last bytes (h.read ++ []) e
            (consumed_more before after last h.read [] h.consumed used) in
            let same : bytes ≡ h.read =
            p.2 ∙ ap (λ (x : List ℕ). (h.read ++ []) ++ x) (at_end last p.0 p.1 end) ∙ append-nil (h.read ++ [])
            ∙ append-nil h.read in
            subst (λ (x : List ℕ). IsDump false x status (h.sent ++ text)) (sym same) of_read;
        few = h.few;
      },
      TookOnly-join a b c h.sent text [] [] h.took took,
    )

-- ---- a front

-- lines that were sent before, and then a front of what was left
front_further :
    (s : FeedState) (read piece sent written bytes : List ℕ) (others : List ℕ) → LinesCome new_feed read s sent →
    bytes ≡ read ++ (piece ++ others) → IsFrontOfDump (IsLeft s (piece ++ others)) written →
    BeginsDump false bytes (sent ++ written)
front_further s read piece sent written bytes others come e (status, following, d) =
    let whole : IsDump false (read ++ (piece ++ others)) status (sent ++ (written ++ following)) =
    come (piece ++ others) status (written ++ following) d in (
      status,
      following,
      subst (λ (x : List ℕ). IsDump false x status ((sent ++ written) ++ following)) (sym e)
          (subst (IsDump false (read ++ (piece ++ others)) status) (sym (append_assoc sent written following)) whole),
    )

front_by :
    {a b : Account} (c : Account) (s : FeedState) (read piece : List ℕ) {sent bytes : List ℕ} (others : List ℕ)
    → LinesCome new_feed read s sent →
    bytes ≡ read ++ (piece ++ others) → TookOnly a b sent [] →
    PrintsUpToFault (IsFrontOfDump (IsLeft s (piece ++ others))) b c → PrintsUpToFault (BeginsDump false bytes) a c
front_by {a} {b} c s read piece {sent} {bytes} others come e took (written, front, faults, few, more) = (
  sent ++ written,
  front_further s read piece sent written bytes others come e front,
  faults,
  few,
  TookOnly-join a b c sent written [] faults took more,
)

-- the same of what was read, and no more
front_read_by :
    {a b : Account} (c : Account) (s : FeedState) {before last : Option (List ℕ)} (read piece : List ℕ)
    {sent : List ℕ} → LinesCome new_feed read s sent → Consumes before last (read ++ piece) → TookOnly a b sent [] →
    PrintsUpToFault (IsFrontOfDump (IsLeft s (piece ++ []))) b c → DumpsFrontOfRead before last a c
front_read_by c s read piece come used took front = record {
  read = read ++ piece;
  consumed = used;
  printed = front_by c s read piece [] come (ap (λ (x : List ℕ). read ++ x) (sym (append-nil piece))) took front;
}

-- a front of the lines of a piece
pub front_of_piece :
    {a b c : Account} {before after : Option (List ℕ)} {s : FeedState} (last : Option (List ℕ)) (piece : List ℕ) →
    SentSoFar a b before after s → Consumes after last piece → PrintsUpToFault (LinesBegin s piece) b c →
    DumpsFrontOfBytes before a c × DumpsFrontOfRead before last a c
front_of_piece {a} {b} {c} {before} {after} {s} last piece h used (written, begins, faults, few, took) =
    let both : Consumes before last (h.read ++ piece) =
    consumed_more before after last h.read piece h.consumed used in (
      λ bytes e fits.
          let p = consumed_parts before last bytes (h.read ++ piece) e both in
          let parts : bytes ≡ h.read ++ (piece ++ p.0) = p.2 ∙ append_assoc h.read piece p.0 in
          let others : AreBytes p.0 = AreBytes-right (h.read ++ piece) p.0 (subst AreBytes p.2 fits) in
          front_by c s h.read piece p.0 h.come parts h.took (written, begins p.0 others, faults, few, took),
      front_read_by c s h.read piece h.come both h.took (written, begins [] (λ i. omega arith), faults, few, took),
    )

-- a front of the last line
pub front_of_last :
    {a b c : Account} {before after : Option (List ℕ)} {s : FeedState} (last : Option (List ℕ)) →
    SentSoFar a b before after s → Consumes after last [] → IsAtEnd last →
    PrintsUpToFault (IsFrontOfDump (IsLeft s [])) b c
    → DumpsFrontOfBytes before a c × DumpsFrontOfRead before last a c
front_of_last {a} {b} {c} {before} {after} {s} last h used end front =
    let both : Consumes before last (h.read ++ []) = consumed_more before after last h.read [] h.consumed used in (
      λ bytes e fits.
          let p = consumed_parts before last bytes (h.read ++ []) e both in
          let parts : bytes ≡ h.read ++ ([] ++ []) =
          p.2 ∙ append_assoc h.read [] p.0 ∙ ap (λ (x : List ℕ). h.read ++ x) (at_end last p.0 p.1 end) in
          front_by c s h.read [] [] h.come parts h.took front,
      front_read_by c s h.read [] h.come both h.took front,
    )

-- what was sent before a read failed, or when there were too many
pub front_so_far :
    {a b : Account} {before after : Option (List ℕ)} {s : FeedState} → SentSoFar a b before after s →
    DumpsFrontOfBytes before a b × DumpsFrontOfRead before after a b
front_so_far {a} {b} {before} {after} {s} h = (
  λ bytes e fits.
      let p = consumed_parts before after bytes h.read e h.consumed in
      let others : AreBytes p.0 = AreBytes-right h.read p.0 (subst AreBytes p.2 fits) in
      let left = left_exists s p.0 (both_fit s.kept p.0 h.waiting.fed.fits others) in
      front_by b s h.read [] p.0 h.come p.2 h.took
      ([], (left.status, left.text, left.is), [], omega arith, TookOnly-none b),
  (let left = left_exists s [] (both_fit s.kept [] h.waiting.fed.fits (λ i. omega arith)) in
      front_read_by b s h.read [] h.come (subst (Consumes before after) (sym (append-nil h.read)) h.consumed) h.took
      ([], (left.status, left.text, left.is), [], omega arith, TookOnly-none b)),
)

-- ---- by the answers of calls

-- what a read of nothing consumed
pub read_none :
    (a b : Option (List ℕ)) (buf : List ℕ) (n : ℕ) → n ≡ 0 → 0 < length buf →
    Consumes a b (take n buf) × (n ≡ 0 → 0 < length buf → IsAtEnd b) → Consumes a b [] × IsAtEnd b
read_none a b buf n zero some (used, end) = (subst (λ (k : ℕ). Consumes a b (take k buf)) zero used, end zero some)

-- the input has ended
pub read_to_end :
    {E : Type 0} {a b : Account} {before after : Option (List ℕ)} {s : FeedState} (c : Account)
    (last : Option (List ℕ)) (r : Result ℕ E) → SentSoFar a b before after s → Consumes after last [] × IsAtEnd last →
    Sends b c (IsLeft s []) r → SendsRead a c before last r
read_to_end c last (Ok status) h (used, end) (text, is, took) = ends_after last text status h used end is took
read_to_end c last (Err e) h (used, end) front = front_of_last last h used end front

-- a piece was not sent to its end
pub piece_failed :
    {D E : Type 0} {a b : Account} {before after : Option (List ℕ)} {s : FeedState} (c : Account) (t : FeedState)
    (last : Option (List ℕ)) (piece : List ℕ) (e : D) (r : Result ℕ E) → IsErr r → SentSoFar a b before after s →
    Consumes after last piece → SendsPiece b c s piece t (Err e) → SendsRead a c before last r
piece_failed c t last piece e (Ok status) i h used p = absurd cc
piece_failed c t last piece e (Err x) i h used p = front_of_piece last piece h used p

-- the lines of a piece are the last
pub piece_ends :
    {a b : Account} {before after : Option (List ℕ)} {s : FeedState} (c : Account) (t : FeedState)
    (last : Option (List ℕ)) (piece : List ℕ) {status : ℕ} {end : Option ℕ} → end ≡ Some status →
    SentSoFar a b before after s → Consumes after last piece → CountsPiece s piece t →
    (lines : List ℕ) × ArePieceLines s piece t lines end × TookOnly b c lines [] →
    (text : List ℕ) × IsDumpRead before last status text × TookOnly a c text []
piece_ends {s = s} c t last piece {status} is h used counts (lines, all, took) =
    ends_within last piece lines status h used counts (subst (ArePieceLines s piece t lines) is all) took

-- or more may come
pub piece_goes_on :
    {a b : Account} {before after : Option (List ℕ)} {s : FeedState} (c : Account) (t : FeedState)
    (last : Option (List ℕ)) (piece : List ℕ) (end : Option ℕ) → end ≡ None → SentSoFar a b before after s →
    Consumes after last piece → CountsPiece s piece t →
    (lines : List ℕ) × ArePieceLines s piece t lines end × TookOnly b c lines [] → SentSoFar a c before last t
piece_goes_on {s = s} c t last piece end is h used counts (lines, all, took) =
    piece_sent last piece lines h used counts (subst (ArePieceLines s piece t lines) is all) took

-- ---- and then it is settled

-- a dump that was sent and settled
pub all_dumped :
    {a b c : Account} {before after : Option (List ℕ)} (status : ℕ) →
    (text : List ℕ) × IsDumpRead before after status text × TookOnly a b text [] → Took b c [] [] →
    DumpsAll false before a c status
all_dumped {a} {b} {c} status (text, is, took) settled bytes e = (
  text,
  is.of_all bytes e,
  subst (λ (t : List ℕ). Took a c t []) (append-nil text)
      (Took-join a b c text [] [] [] took.took settled),
)

-- the same of what was read
pub read_dumped :
    {a b c : Account} {before after : Option (List ℕ)} (status : ℕ) →
    (text : List ℕ) × IsDumpRead before after status text × TookOnly a b text [] → Took b c [] [] →
    DumpsRead before after a c status
read_dumped {a} {b} {c} status (text, is, took) settled = record {
  read = is.read;
  consumed = is.consumed;
  printed = (
    text,
    is.of_read,
    subst (λ (t : List ℕ). Took a c t []) (append-nil text) (Took-join a b c text [] [] [] took.took settled),
  );
}

-- of a dump that was sent, no more was read than a decoder can be fed
pub reads_within :
    {a b : Account} {before after : Option (List ℕ)} (status : ℕ) →
    (text : List ℕ) × IsDumpRead before after status text × TookOnly a b text [] → ReadsWithin greatest_fed before after
reads_within status (text, is, took) = record { read = is.read; consumed = is.consumed; few = is.few }

-- a dump that was sent ends with a status of dumps
pub status_known :
    {a b : Account} {before after : Option (List ℕ)} (status : ℕ) →
    (text : List ℕ) × IsDumpRead before after status text × TookOnly a b text [] → status < failed_status
status_known status (text, is, took) = dump_status (Frames Owned) is.read status text is.of_read

-- a dump that was sent to a writer that failed to settle
pub dumped_unsettled :
    {a b c : Account} {kind : ErrorKind} {before after : Option (List ℕ)} (status : ℕ) →
    (text : List ℕ) × IsDumpRead before after status text × TookOnly a b text [] → TookOnly b c [] (kind ∷ []) →
    DumpsFrontOfBytes before a c × DumpsFrontOfRead before after a c
dumped_unsettled {a} {kind = kind} status (text, is, took) settled = (
  λ bytes e fits. front_unsettled a (Frames Owned) bytes status (text, is.of_all bytes e, took) settled,
  record {
    read = is.read;
    consumed = is.consumed;
    printed = front_unsettled a (Frames Owned) is.read status (text, is.of_read, took) settled;
  },
)

-- nothing was written
pub nothing_dumped : (a : Account) (remaining : Option (List ℕ)) → DumpsFrontOfBytes remaining a a
nothing_dumped a remaining bytes e fits =
    let left = left_exists new_feed bytes fits in
    ([], (left.status, left.text, left.is), [], omega arith, TookOnly-none a)
