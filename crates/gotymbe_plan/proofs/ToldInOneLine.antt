-- What is told stands in one line.
use Rattle.std.proofs.Common.{◌≡◌, ℕ, zero, suc, ◌+◌, ◌/◌, ◌%◌, ◌≤◌, ◌==◌, Bool, true, false, ◌&&◌, List, [], ◌∷◌}
use Rattle.std.proofs.Common.{◌++◌, ◌||◌, not, codes, nat_le, nat_lt, nat_eq, if◌then◌else◌, refl, sym, subst, ap, ap₂}
use Rattle.std.proofs.Common.{◌∙◌, append_assoc, Result, Ok, Err, OnOk, arith, true≢false}
use Rattle.std.specs.Fmt.{decimal, digits, digits_onto, digit_glyph}
use Rattle.std.specs.List.{list_any, flat_map}
use Rattle.std.proofs.lemmas.List.Folds.{list_all-append}
use Rattle.std.proofs.lemmas.Bool.Decides.{nat_tests}
use Rattle.std.specs.declared.io.ErrorKind.{ErrorKind}
use Rattle.std.specs.declared.io.ErrorKind.TheVariants as errors
use Rattle.dial9_trace_format.specs.declared.decoder.error.DecodeErrorKind.{DecodeErrorKind}
use Rattle.dial9_trace_format.specs.declared.decoder.error.DecodeErrorKind.TheVariants as causes
use Rattle.trace_lines.specs.Lines.{quoted, quoted_byte, escaped_byte, is_plain}
use Rattle.gotymbe_plan.specs.Names.{is_odd, told_name}
use Rattle.gotymbe_plan.specs.Numbers.{HasCommas, three_digits}
use Rattle.gotymbe_plan.specs.OneLine.{IsShown, AddsLine}
use Rattle.gotymbe_plan.specs.declared.ending.Ending.{Ending}
use Rattle.gotymbe_plan.specs.declared.ending.Ending.TheVariants as endings
use Rattle.gotymbe_plan.specs.declared.following.Change.{Change}
use Rattle.gotymbe_plan.specs.declared.following.Change.TheVariants as changes
use Rattle.gotymbe_plan.specs.Endings.{cause_text, error_text, start_text, whole_line, stop_text}
use Rattle.gotymbe_plan.specs.Endings.{AppendsReason, AppendsLine}
use Rattle.gotymbe_plan.specs.Following.{IsAnew, anew_line}
use Rattle.gotymbe_plan.specs.Moments.{no_moment_text, no_time_text}

-- ---- texts

from_le : (b : ℕ) → 32 ≤ b → nat_le 32 b ≡ true
from_le b le = grind (arith, nat_tests)

and_first : (p q : Bool) → (p && q) ≡ true → p ≡ true
and_first true q h = refl
and_first false q h = h

or_first : (p q : Bool) → (p || q) ≡ false → p ≡ false
or_first true q h = h
or_first false q h = refl

not_below : (b : ℕ) → nat_lt b 32 ≡ false → 32 ≤ b
not_below b h = grind (arith, nat_tests)

one_more : (b : ℕ) (text : List ℕ) → 32 ≤ b → IsShown text → IsShown (b ∷ text)
one_more b text le shown = ap₂ (λ (p q : Bool). p && q) (from_le b le) shown

both : (a b : List ℕ) → IsShown a → IsShown b → IsShown (a ++ b)
both a b x y = list_all-append (nat_le 32) a b ∙ ap₂ (λ (p q : Bool). p && q) x y

either : (c : Bool) (a b : List ℕ) → IsShown a → IsShown b → IsShown (if c then a else b)
either true a b x y = x
either false a b x y = y

-- ---- numbers

glyph_of : (c : Bool) (a b : ℕ) → 32 ≤ a → 32 ≤ b → 32 ≤ (if c then a else b)
glyph_of true a b x y = x
glyph_of false a b x y = y

glyph_shown : (upper : Bool) (d : ℕ) → 32 ≤ digit_glyph upper d
glyph_shown upper d =
    glyph_of (nat_lt d 10) (48 + d) (if upper then 55 + d else 87 + d) (omega arith)
    (glyph_of upper (55 + d) (87 + d) (omega arith) (omega arith))

digits_shown :
    (k base : ℕ) (upper : Bool) (n : ℕ) (acc : List ℕ) → IsShown acc → IsShown (digits_onto k base upper n acc)
digits_shown zero base upper n acc shown = shown
digits_shown (suc k) base upper n acc shown =
    let more = one_more (digit_glyph upper (n % base)) acc (glyph_shown upper (n % base)) shown in
    either (n / base == 0) (digit_glyph upper (n % base) ∷ acc)
    (digits_onto k base upper (n / base) (digit_glyph upper (n % base) ∷ acc)) more
    (digits_shown k base upper (n / base) (digit_glyph upper (n % base) ∷ acc) more)

decimal_shown : (n : ℕ) → IsShown (decimal n)
unfolding digits
decimal_shown n = digits_shown 64 10 false n [] refl

three_shown : (n : ℕ) → IsShown (three_digits n)
three_shown n =
    let last = one_more (48 + n % 10) [] (omega arith) refl in
    let later = one_more (48 + n / 10 % 10) ((48 + n % 10) ∷ []) (omega arith) last in
    one_more (48 + n / 100) ((48 + n / 10 % 10) ∷ (48 + n % 10) ∷ []) (omega arith) later

commas_shown : (k n : ℕ) (text : List ℕ) → HasCommas k n text → IsShown text
commas_shown zero n text (small, is) = subst IsShown (sym is) (decimal_shown n)
commas_shown (suc k) n text (big, (front, commas, is)) =
    let begun : IsShown (front ++ codes ",") = both front (codes ",") (commas_shown k (n / 1000) front commas) refl in
    subst IsShown (sym is) (both (front ++ codes ",") (three_digits (n % 1000)) begun (three_shown (n % 1000)))

-- ---- names

escaped_shown : (b : ℕ) → IsShown (escaped_byte b)
unfolding escaped_byte
escaped_shown b =
    let last = one_more (digit_glyph true (b % 16)) [] (glyph_shown true (b % 16)) refl in
    both (codes "\\x") (digit_glyph true (b / 16) ∷ digit_glyph true (b % 16) ∷ []) refl
    (one_more (digit_glyph true (b / 16)) (digit_glyph true (b % 16) ∷ []) (glyph_shown true (b / 16)) last)

byte_shown_by : (b : ℕ) (plain : Bool) → is_plain b ≡ plain → IsShown (if plain then b ∷ [] else escaped_byte b)
byte_shown_by b true is =
    ap (λ (p : Bool). p && true)
    (and_first (nat_le 32 b) (nat_le b 126 && (not (b == 34) && not (b == 92))) is)
byte_shown_by b false is = escaped_shown b

byte_shown : (b : ℕ) → IsShown (quoted_byte b)
unfolding quoted_byte
byte_shown b = byte_shown_by b (is_plain b) refl

bytes_shown : (bytes : List ℕ) → IsShown (flat_map quoted_byte bytes)
bytes_shown [] = refl
bytes_shown (b ∷ bytes) = both (quoted_byte b) (flat_map quoted_byte bytes) (byte_shown b) (bytes_shown bytes)

quoted_shown : (bytes : List ℕ) → IsShown (quoted bytes)
unfolding quoted
quoted_shown bytes =
    both (codes "\"") (flat_map quoted_byte bytes ++ codes "\"") refl
    (both (flat_map quoted_byte bytes) (codes "\"") (bytes_shown bytes) refl)

plain_shown_by :
    (b : ℕ) (odd : Bool) (bytes : List ℕ) → is_odd b ≡ odd →
    (list_any is_odd bytes ≡ false → IsShown bytes) → (odd || list_any is_odd bytes) ≡ false → IsShown (b ∷ bytes)
plain_shown_by b true bytes is others none = absurd (true≢false none)
plain_shown_by b false bytes is others none =
    let shown : 32 ≤ b = not_below b (or_first (nat_lt b 32) (nat_eq b 34 || (nat_eq b 127 || nat_eq b 194)) is) in
    one_more b bytes shown (others none)

plain_shown : (bytes : List ℕ) → list_any is_odd bytes ≡ false → IsShown bytes
plain_shown [] none = refl
plain_shown (b ∷ bytes) none = plain_shown_by b (is_odd b) bytes refl (plain_shown bytes) none

name_shown_by : (name : List ℕ) (odd : Bool) → list_any is_odd name ≡ odd → IsShown (if odd then quoted name else name)
name_shown_by name true is = quoted_shown name
name_shown_by name false is = plain_shown name is

name_shown : (name : List ℕ) → IsShown (told_name name)
name_shown name = name_shown_by name (list_any is_odd name) refl

start_shown : (name : List ℕ) → IsShown (start_text name)
start_shown name =
    both (codes "gotymbe: ") (told_name name ++ codes ": ") refl (both (told_name name) (codes ": ")
    (name_shown name) refl)

-- ---- reasons

with_number : (text : List ℕ) (n : ℕ) → IsShown text → IsShown (text ++ decimal n)
with_number text n shown = both text (decimal n) shown (decimal_shown n)

cause_shown : (c : DecodeErrorKind) → IsShown (cause_text c)
cause_shown causes.TruncatedEvent = refl
cause_shown (causes.UnknownTypeId id) = with_number (codes "unknown wire id ") id.0 refl
cause_shown causes.TruncatedDelta = refl
cause_shown causes.TimestampOverflow = refl
cause_shown causes.TruncatedPrefix = refl
cause_shown causes.TruncatedOptional = refl
cause_shown causes.TruncatedValue = refl
cause_shown causes.TruncatedReset = refl
cause_shown (causes.NoFrame tag) = with_number (codes "no whole frame with tag ") tag refl
cause_shown (causes.Conflict id) = with_number (codes "another schema under wire id ") id.0 refl
cause_shown causes.OutOfMemory = refl
cause_shown causes.NoHeader = refl
cause_shown causes.InputTooLong = refl

error_shown : (kind : ErrorKind) → IsShown (error_text kind)
error_shown errors.NotFound = refl
error_shown kind = refl

-- a text without control characters was appended
abbrev Appends : List ℕ → List ℕ → Type 0
Appends old new = (text : List ℕ) × IsShown text × (new ≡ old ++ text)

stop_shown : (place : List ℕ) (cause : DecodeErrorKind) → IsShown place → IsShown (stop_text place cause)
stop_shown place cause shown =
    both (codes "stops at byte ") (place ++ (codes ": " ++ cause_text cause)) refl
    (both place (codes ": " ++ cause_text cause) shown (both (codes ": ") (cause_text cause) refl (cause_shown cause)))

reason_shown : (ending : Ending) (old new : List ℕ) → AppendsReason ending old new → Appends old new
reason_shown endings.Whole old new is = (codes "whole", refl, is)
reason_shown (endings.Stopped stop) old new (place, (k, commas), is) =
    (stop_text place stop.cause, stop_shown place stop.cause (commas_shown k stop.place place commas), is)
reason_shown endings.OutOfMemory old new is = (codes "out of memory", refl, is)
reason_shown (endings.Unread kind) old new is = (
  codes "cannot be read: " ++ error_text kind,
  both (codes "cannot be read: ") (error_text kind) refl (error_shown kind),
  is,
)
reason_shown (endings.Unwritten kind) old new is = (
  codes "cannot be written: " ++ error_text kind,
  both (codes "cannot be written: ") (error_text kind) refl (error_shown kind),
  is,
)
reason_shown (endings.Unfinished place) old new (text, (k, commas), is) = (
  codes "ends inside the frame at byte " ++ text,
  both (codes "ends inside the frame at byte ") text refl (commas_shown k place text commas),
  is,
)
reason_shown endings.TooMuch old new is = (codes "adds up to more than 64 bits hold", refl, is)
reason_shown endings.NoClock old new is = (codes "has no clock that dates can go by", refl, is)
reason_shown (endings.Dumped status) old new is = (codes "stops where the last line of its dump tells", refl, is)

-- ---- lines

no_time_shown : (text : List ℕ) → IsShown (no_time_text text)
no_time_shown text =
    both (codes "error: ") (quoted text ++ codes " says no time for --") refl
    (both (quoted text) (codes " says no time for --") (quoted_shown text) refl)

-- the line of a file is one line
told_in_a_line :
    (name : List ℕ) (ending : Ending) (old new : List ℕ) → AppendsLine name ending old new → AddsLine old new
told_in_a_line name ending old new (text, reason, is) = told (reason_shown ending (old ++ start_text name) text reason)
  where
    told : Appends (old ++ start_text name) text → AddsLine old new
    told (said, shown, said_is) = (
      start_text name ++ said,
      both (start_text name) said (start_shown name) shown,
      is ∙ ap (λ (t : List ℕ). t ++ codes "\n") (said_is ∙ append_assoc old (start_text name) said)
          ∙ append_assoc old (start_text name ++ said) (codes "\n"),
    )

-- the line that tells that a file is whole
whole_in_a_line : (name old new : List ℕ) → new ≡ old ++ whole_line name → AddsLine old new
whole_in_a_line name old new is = (
  told_name name ++ codes ": whole",
  both (told_name name) (codes ": whole") (name_shown name) refl,
  is ∙ ap (λ (t : List ℕ). old ++ t) (sym (append_assoc (told_name name) (codes ": whole") (codes "\n"))),
)

after_start : (name said old new : List ℕ) → IsShown said → new ≡ old ++ (start_text name ++ (said ++ codes "\n")) →
    AddsLine old new
after_start name said old new shown is = (
  start_text name ++ said,
  both (start_text name) said (start_shown name) shown,
  is ∙ ap (λ (t : List ℕ). old ++ t) (sym (append_assoc (start_text name) said (codes "\n"))),
)

-- the line that tells why a file is read anew
anew_in_a_line :
    (name : List ℕ) (change : Change) (old new : List ℕ) → IsAnew change → new ≡ old ++ anew_line name change →
    AddsLine old new
anew_in_a_line name changes.Shrank old new anew is = after_start name (codes "shrank, and is read anew") old new refl is
anew_in_a_line name changes.Replaced old new anew is =
    after_start name (codes "was replaced, and is read anew") old new refl is
anew_in_a_line name changes.Nothing old new anew is = absurd anew
anew_in_a_line name changes.Grew old new anew is = absurd anew
anew_in_a_line name changes.Gone old new anew is = absurd anew

-- the line that tells of a text that says no time
no_moment_in_a_line :
    (option text old new : List ℕ) → IsShown option → new ≡ old ++ no_moment_text option text → AddsLine old new
no_moment_in_a_line option text old new shown is =
    let front = no_time_text text in
    let wish = codes ": a number of nanoseconds, or a date as 2025-11-28T12:00:00Z" in (
      front ++ (option ++ wish),
      both front (option ++ wish) (no_time_shown text) (both option wish shown refl),
      is ∙ ap (λ (t : List ℕ). old ++ t)
          (sym (append_assoc front (option ++ wish) (codes "\n")
          ∙ ap (λ (t : List ℕ). front ++ t) (append_assoc option wish (codes "\n")))),
    )

-- ---- unless a growth was refused

pub line_told :
    {E : Type 0} (name : List ℕ) (ending : Ending) (old new : List ℕ) (r : Result (Unit {0}) E) →
    OnOk r (AppendsLine name ending old new) → OnOk r (AddsLine old new)
line_told name ending old new (Err e) is = is
line_told name ending old new (Ok u) is = told_in_a_line name ending old new is

pub whole_told :
    {E : Type 0} (name old new : List ℕ) (r : Result (Unit {0}) E) → OnOk r (new ≡ old ++ whole_line name) →
    OnOk r (AddsLine old new)
whole_told name old new (Err e) is = is
whole_told name old new (Ok u) is = whole_in_a_line name old new is

pub anew_told :
    {E : Type 0} (name : List ℕ) (change : Change) (old new : List ℕ) (r : Result (Unit {0}) E) →
    OnOk r (new ≡ old ++ anew_line name change) → IsAnew change → OnOk r (AddsLine old new)
anew_told name change old new (Err e) is anew = is
anew_told name change old new (Ok u) is anew = anew_in_a_line name change old new anew is

pub no_moment_told :
    {E : Type 0} (option text old new : List ℕ) (r : Result (Unit {0}) E) →
    OnOk r (new ≡ old ++ no_moment_text option text) → IsShown option → OnOk r (AddsLine old new)
no_moment_told option text old new (Err e) is shown = is
no_moment_told option text old new (Ok u) is shown = no_moment_in_a_line option text old new shown is
