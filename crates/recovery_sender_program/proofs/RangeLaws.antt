-- Ranges of an ACK frame: what is read is encoded so, and what is encoded so is read. `ack` rests on it.
use Rattle.std.proofs.Common.{◌≡◌, ℕ, ◌+◌, ◌<◌, ◌^◌, ◌⊎◌, true, false, Bool, List, [], ◌∷◌, ◌++◌, length, Option, Some, None, IfSome, if◌then◌else◌, bytes_eq, decimal, refl, sym, ap, subst, ◌∙◌, arith, append-nil, append_assoc, lit≤}
use Rattle.std.specs.Prelude.{option_map}
use Rattle.std.specs.List.{AllByRecursion}
use Rattle.std.proofs.lemmas.Fmt.{decimal_is_IsNumeral}
use Rattle.std.proofs.lemmas.Slice.Eq.{bytes_eq-Decides}
use lib.Chars.{codes}
use Rattle.recovery_base.specs.declared.below.frames.EcnCounts.{EcnCounts}
use Rattle.recovery_script_syntax.specs.Fields.{Field, Values, no_tail, a_u64}
use Rattle.recovery_script_syntax.specs.Reading.{◌>>=◌, all_read, field, fields_read, number_of, first_word}
use Rattle.recovery_script_syntax.proofs.LineFieldLaws.{bind_some}
use Rattle.recovery_script_syntax.proofs.NumberWordLaws.{number_again, number_takes}
use Rattle.recovery_sender_program.specs.CallLines.{FitCounts, IsRange, SaysRanges, ecn_words, range_words, received_words}
use Rattle.recovery_sender_program.specs.CallReading.{AreRangesRead, counts_read, end_read, ended, is_end_name, range_read, ranges_read, received_read, time_read}
use Rattle.recovery_script_syntax.proofs.FormLaws.{all_is, fields_front}
use Rattle.recovery_sender_program.proofs.CallLaws.{fields_behind}

-- ---- ECN counts

abbrev counted : List Field
counted = a_u64 ∷ a_u64 ∷ a_u64 ∷ []

abbrev made : Values no_tail counted → EcnCounts
made x = record { ect0 = x.0; ect1 = x.1.0; ce = x.1.1.0 }

counts_take : (words : List (List ℕ)) (read : EcnCounts × List (List ℕ)) → counts_read words ≡ Some read
    → (codes "ecn" ∷ words ≡ ecn_words (Some read.0) ++ read.1) × FitCounts read.0
counts_take words read e =
    let r = fields_front no_tail counted made words read.0 read.1 (sym (all_is no_tail counted made words) ∙ e) in
    grind (arith, r.1)

counts_again : (counts : EcnCounts) (left : List (List ℕ)) → FitCounts counts
    → counts_read (decimal counts.ect0 ∷ decimal counts.ect1 ∷ decimal counts.ce ∷ left) ≡ Some (counts, left)
counts_again counts left h =
    all_is no_tail counted made _ ∙ fields_behind counted made (counts.ect0, (counts.ect1, (counts.ce, tt))) left
    (h.0, (h.1, (h.2, tt)))

-- ---- the time of receipt

time_take : (words : List (List ℕ)) (time : ℕ) → time_read words ≡ Some time
    → (words ≡ decimal time ∷ []) × (time < 2 ^ 64)
unfolding field
time_take [] time e = absurd cc
time_take (word ∷ []) time e = by (number_of (2 ^ 64) word) refl e
  where
    by : (read : Option ℕ) → number_of (2 ^ 64) word ≡ read
        → ended (read >>= λ number. Some (number, [])) ≡ Some time
        → (word ∷ [] ≡ decimal time ∷ []) × (time < 2 ^ 64)
    by None one e = absurd cc
    by (Some number) one e = let a = number_takes (2 ^ 64) word number one in grind (arith, a, e)
time_take (word ∷ other ∷ words) time e = by (number_of (2 ^ 64) word) e
  where
    by : (read : Option ℕ) → ended (read >>= λ number. Some (number, other ∷ words)) ≡ Some time
        → (word ∷ other ∷ words ≡ decimal time ∷ []) × (time < 2 ^ 64)
    by None e = absurd cc
    by (Some number) e = absurd cc

time_again : (time : ℕ) → time < 2 ^ 64 → time_read (decimal time ∷ []) ≡ Some time
unfolding field
time_again time fit = rw (number_again (2 ^ 64) time (lit≤ tt) fit) refl

received_take : (words : List (List ℕ)) (read : Option ℕ) → received_read words ≡ Some read
    → (words ≡ received_words read) × IfSome read (λ time. time < 2 ^ 64)
received_take [] read e = by read e
  where
    by : (read : Option ℕ) → ◌≡◌ {A = Option (Option ℕ)} (Some None) (Some read)
        → ([] ≡ received_words read) × IfSome read (λ time. time < 2 ^ 64)
    by None e = (refl, tt)
    by (Some time) e = absurd cc
received_take (word ∷ words) read e = by (bytes_eq word (codes "received")) refl (time_read words) refl e
  where
    by : (same : Bool) → bytes_eq word (codes "received") ≡ same → (time : Option ℕ) → time_read words ≡ time
        → (if same then option_map (λ time. Some time) time else None) ≡ Some read
        → (word ∷ words ≡ received_words read) × IfSome read (λ time. time < 2 ^ 64)
    by false is time one e = absurd cc
    by true is None one e = absurd cc
    by true is (Some time) one e =
        let named : word ≡ codes "received" = grind (arith, is, bytes_eq-Decides word (codes "received")) in
        let took = time_take words time one in
        let same : Some time ≡ read = cc in
        subst (λ (read : Option ℕ). (word ∷ words ≡ received_words read) × IfSome read (λ time. time < 2 ^ 64)) same
        (grind (arith, named, took.0), took.1)

received_again : (read : Option ℕ) → IfSome read (λ time. time < 2 ^ 64)
    → received_read (received_words read) ≡ Some read
received_again None fit = refl
received_again (Some time) fit = ap (option_map (λ time. Some time)) (time_again time fit)

-- ---- what follows the ranges

abbrev End : Type 0
End = Option EcnCounts × Option ℕ

abbrev FitEnd : End → Type 0
FitEnd end = IfSome end.0 FitCounts × IfSome end.1 (λ time. time < 2 ^ 64)

abbrev end_words : End → List (List ℕ)
end_words end = ecn_words end.0 ++ received_words end.1

end_take : (name : List ℕ) (words : List (List ℕ)) (end : End) → is_end_name name ≡ true
    → end_read name words ≡ Some end → (name ∷ words ≡ end_words end) × FitEnd end
end_take name words end is e = by (bytes_eq name (codes "ecn")) refl e
  where
    with_time : (time : Option ℕ) → bytes_eq name (codes "ecn") ≡ false → time_read words ≡ time
        → option_map (λ time. (None, Some time)) time ≡ Some end → (name ∷ words ≡ end_words end) × FitEnd end
    with_time None other one e = absurd cc
    with_time (Some time) other one e =
        let named : name ≡ codes "received" = grind (arith, is, other, bytes_eq-Decides name (codes "received")) in
        let took = time_take words time one in
        let same : ◌≡◌ {A = End} (None, Some time) end = cc in
        subst (λ (end : End). (name ∷ words ≡ end_words end) × FitEnd end) same
        (grind (arith, named, took.0), (tt, took.1))

    with_counts : (counts : Option (EcnCounts × List (List ℕ))) → bytes_eq name (codes "ecn") ≡ true
        → counts_read words ≡ counts
        → (counts >>= λ read. option_map (λ time. (Some read.0, time)) (received_read read.1)) ≡ Some end
        → (name ∷ words ≡ end_words end) × FitEnd end
    with_counts None same one e = absurd cc
    with_counts (Some read) same one e = more (received_read read.1) refl e
      where
        more : (time : Option (Option ℕ)) → received_read read.1 ≡ time
            → option_map (λ time. (Some read.0, time)) time ≡ Some end
            → (name ∷ words ≡ end_words end) × FitEnd end
        more None two e = absurd cc
        more (Some time) two e =
            let named : name ≡ codes "ecn" = grind (arith, same, bytes_eq-Decides name (codes "ecn")) in
            let took = counts_take words read one in
            let last = received_take read.1 time two in
            let is_end : ◌≡◌ {A = End} (Some read.0, time) end = cc in
            subst (λ (end : End). (name ∷ words ≡ end_words end) × FitEnd end) is_end (
              ap (λ (word : List ℕ). word ∷ words) named ∙ took.0 ∙ ap (λ (l : List (List ℕ)). ecn_words
                  (Some read.0) ++ l) last.0,
              (took.1, last.1),
            )

    by : (test : Bool) → bytes_eq name (codes "ecn") ≡ test
        → (if test then (counts_read words >>= λ read. option_map (λ time. (Some read.0, time)) (received_read read.1))
        else option_map (λ time. (None, Some time)) (time_read words)) ≡ Some end
        → (name ∷ words ≡ end_words end) × FitEnd end
    by true test e = with_counts (counts_read words) test refl e
    by false test e = with_time (time_read words) test refl e

end_again : (end : End) → FitEnd end → ranges_read (end_words end) ≡ Some ([], end)
unfolding ranges_read
end_again (None, None) fit = refl
end_again (None, Some time) fit = rw (time_again time fit.1) refl
end_again (Some counts, time) fit =
    rw (counts_again counts (received_words time) fit.0, received_again time fit.1) refl

-- ---- ranges

-- these ranges are before those that are read
abbrev pub behind : List (ℕ × ℕ) → Option (List (ℕ × ℕ) × End)
    → Option (List (ℕ × ℕ) × End)
behind ranges read = read >>= λ more. Some (ranges ++ more.0, more.1)

-- a number is no name of what follows the ranges
no_name : (n : ℕ) → n < 2 ^ 64 → is_end_name (decimal n) ≡ false
no_name n lt = grind (
  arith,
  decimal_is_IsNumeral n lt,
  bytes_eq-Decides (decimal n) (codes "ecn"),
  bytes_eq-Decides (decimal n) (codes "received"),
)

-- the next two words are a range
range_first : (words rest left : List (List ℕ)) (word : List ℕ) (range : ℕ × ℕ)
    → first_word words ≡ Some (word, rest) → false ≡ is_end_name word
    → range_read word rest ≡ Some (range, left)
    → (ranges_read words ≡ behind (range ∷ []) (ranges_read left)) × (length left + 2 ≡ length words)
unfolding field ranges_read
range_first [] rest left word range is other read = absurd cc
range_first (a ∷ []) rest left word range is other read = grind (arith, is, read)
range_first (a ∷ b ∷ words) rest left word range is other read = grind (arith, is, other, read)

-- or they are none
no_range : (words rest : List (List ℕ)) (word : List ℕ) → first_word words ≡ Some (word, rest)
    → false ≡ is_end_name word → range_read word rest ≡ None → ranges_read words ≡ None
unfolding field ranges_read
no_range [] rest word is other none = absurd cc
no_range (a ∷ []) rest word is other none = refl
no_range (a ∷ b ∷ words) rest word is other none = grind (arith, is, other, none)

-- the next word is the name of what follows the ranges
end_first : (words rest : List (List ℕ)) (word : List ℕ) → first_word words ≡ Some (word, rest)
    → true ≡ is_end_name word → ranges_read words
    ≡ option_map (λ end. ([], end)) (end_read word rest)
unfolding ranges_read fields_read field
end_first [] rest word is same = absurd cc
end_first (a ∷ []) rest word is same = grind (arith, is)
end_first (a ∷ b ∷ words) rest word is same = grind (arith, is, same)

behind_all : (ranges : List (ℕ × ℕ)) (more : List (ℕ × ℕ)) (read : Option (List (ℕ × ℕ) × End))
    → behind ranges (behind more read) ≡ behind (ranges ++ more) read
behind_all ranges more None = refl
behind_all ranges more (Some read) = ap (λ (l : List (ℕ × ℕ)). Some (l, read.1)) (sym (append_assoc ranges more read.0))

-- ---- after ranges that were read

module _ (all words : List (List ℕ)) (ranges : List (ℕ × ℕ))
    (so : ranges_read all ≡ behind ranges (ranges_read words)) where
  pub over : first_word words ≡ None → ranges_read all ≡ Some (ranges, (None, None))
  unfolding ranges_read
  over none = by words none so
    where
      by : (words : List (List ℕ)) → first_word words ≡ None → ranges_read all ≡ behind ranges (ranges_read words)
          → ranges_read all ≡ Some (ranges, (None, None))
      by [] none so = so ∙ ap (λ (l : List (ℕ × ℕ)). Some (l, (None, None))) (append-nil ranges)
      by (word ∷ words) none so = absurd cc

  module _ (rest : List (List ℕ)) (word : List ℕ) (is : first_word words ≡ Some (word, rest)) where
    -- what follows the ranges, or that it is not valid
    pub end_last : true ≡ is_end_name word → (end : Option End) → end ≡ end_read word rest
        → AreRangesRead all ranges end
    end_last same (Some end) e =
        so ∙ ap (behind ranges) (end_first words rest word is same
        ∙ ap (option_map (λ c. ([], c))) (sym e))
        ∙ ap (λ (l : List (ℕ × ℕ)). Some (l, end)) (append-nil ranges)
    end_last same None e =
        so ∙ ap (behind ranges) (end_first words rest word is same ∙ ap (option_map (λ c. ([], c))) (sym e))

    pub none_more : false ≡ is_end_name word → range_read word rest ≡ None → ranges_read all ≡ None
    none_more other none = so ∙ ap (behind ranges) (no_range words rest word is other none)

    pub one_more : false ≡ is_end_name word → (range : ℕ × ℕ) (left : List (List ℕ))
        → range_read word rest ≡ Some (range, left)
        → (ranges_read all ≡ behind (ranges ++ range ∷ []) (ranges_read left)) × (length left < length words)
    one_more other range left read =
        let r = range_first words rest left word range is other read in
        (so ∙ ap (behind ranges) r.0 ∙ behind_all ranges (range ∷ []) (ranges_read left), omega (arith, r.1))

module _ (word next : List ℕ) (words : List (List ℕ)) where
  -- what is read of them says them
  abbrev Says : List (List ℕ) → Option (List (ℕ × ℕ) × End) → Type 0
  Says all read = IfSome read (λ r. SaysRanges all r.0 r.1)

  end_says : is_end_name word ≡ true → (end : Option End) → end_read word (next ∷ words) ≡ end
      → Says (word ∷ next ∷ words) (option_map (λ end. ([], end)) end)
  end_says named None e = tt
  end_says named (Some end) e =
      let t = end_take word (next ∷ words) end named e in
      record { are = t.0; fit = tt; counts = t.1.0; time = t.1.1 }

  range_says : (first last : Option ℕ) (rest : Option (List (ℕ × ℕ) × End))
      → number_of (2 ^ 64) word ≡ first → number_of (2 ^ 64) next ≡ last → Says words rest
      → Says (word ∷ next ∷ words) (first >>= λ f. (last >>= λ l. (rest >>= λ r. Some ((f, l) ∷ r.0, r.1))))
  range_says None last rest one two says = tt
  range_says (Some first) None rest one two says = tt
  range_says (Some first) (Some last) None one two says = tt
  range_says (Some first) (Some last) (Some read) one two says =
      let a = number_takes (2 ^ 64) word first one in
      let b = number_takes (2 ^ 64) next last two in
      record {
        are = grind (arith, a.0, b.0, says.are);
        fit = ((a.1, b.1), says.fit);
        counts = says.counts;
        time = says.time;
      }

  says_by : (same : Bool) → is_end_name word ≡ same → Says words (ranges_read words)
      → Says (word ∷ next ∷ words) (if same then option_map (λ end. ([], end)) (end_read word (next ∷ words))
      else (number_of (2 ^ 64) word >>= λ first. (number_of (2 ^ 64) next >>= λ last.
      (ranges_read words >>= λ rest. Some ((first, last) ∷ rest.0, rest.1)))))
  says_by true is says = end_says is (end_read word (next ∷ words)) refl
  says_by false is says =
      range_says (number_of (2 ^ 64) word) (number_of (2 ^ 64) next) (ranges_read words) refl refl says

ranges_say : (words : List (List ℕ)) → IfSome (ranges_read words) (λ r. SaysRanges words r.0 r.1)
unfolding ranges_read
ranges_say [] = record { are = refl; fit = tt; counts = tt; time = tt }
ranges_say (word ∷ []) = tt
ranges_say (word ∷ next ∷ words) = says_by word next words (is_end_name word) refl (ranges_say words)

pub ranges_take : (words : List (List ℕ)) (ranges : List (ℕ × ℕ)) (end : End)
    → ranges_read words ≡ Some (ranges, end) → SaysRanges words ranges end
ranges_take words ranges end e = rw e at (ranges_say words)

encoded_again : (ranges : List (ℕ × ℕ)) (end : End) → AllByRecursion IsRange ranges → FitEnd end
    → ranges_read (range_words ranges ++ end_words end) ≡ Some (ranges, end)
unfolding ranges_read
encoded_again [] end fit fits = end_again end fits
encoded_again ((first, last) ∷ ranges) end fit fits = rw (
  no_name first fit.0.0,
  number_again (2 ^ 64) first (lit≤ tt) fit.0.0,
  number_again (2 ^ 64) last (lit≤ tt) fit.0.1,
  encoded_again ranges end fit.1 fits,
) refl

pub ranges_again : (words : List (List ℕ)) (ranges : List (ℕ × ℕ)) (end : End)
    → SaysRanges words ranges end → ranges_read words ≡ Some (ranges, end)
ranges_again words ranges end says = rw (says.are) (encoded_again ranges end says.fit (says.counts, says.time))
