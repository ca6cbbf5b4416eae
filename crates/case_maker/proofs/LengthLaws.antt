-- The texts of the made case are short.
use Rattle.std.proofs.Common.{◌≡◌, ◌≤◌, ◌<◌, ◌^◌, ℕ, zero, suc, ◌+◌, ◌*◌, ◌-◌, List, [], ◌++◌, length, codes, ap, sym, ◌∙◌, arith, add-one, decimal}
use Rattle.std.proofs.lemmas.List.{length-append}
use Rattle.std.proofs.lemmas.Fmt.{length-decimal-le}
use Rattle.case_maker.specs.MadeCase.{lines_for, disjoint_line, successor_line, subclass_line, first_row, second_row, third_row, rows_of, left_text, right_text, table_text}
use Rattle.case_maker.proofs.LineLaws.{lines_more}

-- a part and what follows it, each with its bound
pub joined : (front rest : List ℕ) (a b : ℕ) → length front ≤ a → length rest ≤ b → length (front ++ rest) ≤ a + b
joined front rest a b short_front short_rest = let e = length-append front rest in omega arith

-- a number up to 10,001 has five digits at most
pub few_digits : (n : ℕ) → n ≤ 10001 → length (decimal n) ≤ 5
few_digits n small = length-decimal-le 5 n (omega arith) (omega arith) (omega arith)

-- lines with a bound for each have a bound for all
pub lines_bounded : (line : ℕ → List ℕ) (most : ℕ) → ((i : ℕ) → i ≤ 10000 → length (line i) ≤ most)
    → (count : ℕ) → count ≤ 10000 → length (lines_for line count) ≤ count * most
lines_bounded line most each zero few = omega arith
lines_bounded line most each (suc count) few =
    let before : length (lines_for line count) ≤ count * most = lines_bounded line most each count (omega arith) in
    let last : length (line (count + 1)) ≤ most = each (count + 1) (omega arith) in
    let all : length (lines_for line (suc count)) ≡ length (lines_for line count ++ line (count + 1)) =
    ap (λ n. length (lines_for line n)) (sym (add-one count)) ∙ ap length (sym (lines_more [] line count)) in
    let sum = joined (lines_for line count) (line (count + 1)) (count * most) most before last in
    omega arith

-- a line of a text, a number, a text, a number and a text
two_numbers : (first second third : List ℕ) (i j : ℕ) → length first ≤ 50 → length second ≤ 50 → length third ≤ 50 → i ≤ 10001 → j ≤ 10001
    → length (first ++ (decimal i ++ (second ++ (decimal j ++ third)))) ≤ 160
two_numbers first second third i j a b c small_i small_j =
    joined first _ 50 110 a
    (joined (decimal i) _ 5 105 (few_digits i small_i)
    (joined second _ 50 55 b
    (joined (decimal j) third 5 50 (few_digits j small_j) c)))

disjoint_short : (i : ℕ) → i ≤ 10000 → length (disjoint_line i) ≤ 160
disjoint_short i small = two_numbers (codes "DisjointClasses(:A") (codes " :B") (codes ")\n") i i (omega arith) (omega arith) (omega arith) (omega arith) (omega arith)

successor_short : (i : ℕ) → i ≤ 10000 → length (successor_line i) ≤ 160
successor_short i small = two_numbers (codes "SubClassOf(:A") (codes " ObjectSomeValuesFrom(:p :A") (codes "))\n") i (i + 1) (omega arith) (omega arith) (omega arith) (omega arith) (omega arith)

subclass_short : (i : ℕ) → i ≤ 10000 → length (subclass_line i) ≤ 160
subclass_short i small = two_numbers (codes "SubClassOf(:X") (codes " :Y") (codes ")\n") i i (omega arith) (omega arith) (omega arith) (omega arith) (omega arith)

-- three texts one after another
three_parts : (a b c : List ℕ) → length a ≤ 160 → length b ≤ 160 → length c ≤ 160 → length (a ++ b ++ c) ≤ 480
three_parts a b c short_a short_b short_c = joined (a ++ b) c 320 160 (joined a b 160 160 short_a short_b) short_c

rows_short : (i : ℕ) → i ≤ 10000 → length (rows_of i) ≤ 480
rows_short i small = three_parts (first_row i) (second_row i) (third_row i)
    (two_numbers (codes "l:A") (codes "\tskos:exactMatch\tr:X") (codes "\t0.9\n") i i (omega arith) (omega arith) (omega arith) (omega arith) (omega arith))
    (two_numbers (codes "l:B") (codes "\tskos:exactMatch\tr:Y") (codes "\t0.8\n") i i (omega arith) (omega arith) (omega arith) (omega arith) (omega arith))
    (two_numbers (codes "l:B") (codes "\tskos:broadMatch\tr:Y") (codes "\t0.7\n") i i (omega arith) (omega arith) (omega arith) (omega arith) (omega arith))

-- up to 10,000 lines, each of at most 480 bytes
lines_short : (line : ℕ → List ℕ) → ((i : ℕ) → i ≤ 10000 → length (line i) ≤ 480)
    → (count : ℕ) → count ≤ 10000 → length (lines_for line count) ≤ 4800000
lines_short line each count few = let bound = lines_bounded line 480 each count few in omega arith

-- parts with a bound make a text with one
module _ (a b c : List ℕ) (short_a : length a ≤ 4800000) (short_b : length b ≤ 4800000) (short_c : length c ≤ 4800000) where
  text_of_three : length (a ++ b ++ c) < 2 ^ 31
  text_of_three =
      let front = joined a b 4800000 4800000 short_a short_b in
      let all = joined (a ++ b) c 9600000 4800000 front short_c in
      omega arith

  text_of_four : (d : List ℕ) → length d ≤ 4800000 → length (a ++ b ++ c ++ d) < 2 ^ 31
  text_of_four d short_d =
      let front = joined a b 4800000 4800000 short_a short_b in
      let more = joined (a ++ b) c 9600000 4800000 front short_c in
      let all = joined (a ++ b ++ c) d 14400000 4800000 more short_d in
      omega arith

pub left_is_short : (n : ℕ) → n ≤ 10000 → length (left_text n) < 2 ^ 31
left_is_short n few =
    text_of_four (codes "Prefix(:=<http://example.org/left#>)\nOntology(<http://example.org/left>\n")
    (lines_for disjoint_line n) (lines_for successor_line (n - 1)) (omega arith)
    (lines_short disjoint_line (λ i small. let h = disjoint_short i small in omega arith) n few)
    (lines_short successor_line (λ i small. let h = successor_short i small in omega arith) (n - 1) (omega arith))
    (codes ")\n") (omega arith)

pub right_is_short : (n : ℕ) → n ≤ 10000 → length (right_text n) < 2 ^ 31
right_is_short n few =
    text_of_three (codes "Prefix(:=<http://example.org/right#>)\nOntology(<http://example.org/right>\n")
    (lines_for subclass_line n) (codes ")\n") (omega arith)
    (lines_short subclass_line (λ i small. let h = subclass_short i small in omega arith) n few)
    (omega arith)

pub table_is_short : (n : ℕ) → n ≤ 10000 → length (table_text n) < 2 ^ 31
table_is_short n few =
    text_of_four (codes "#curie_map:\n#  l: http://example.org/left#\n") (codes "#  r: http://example.org/right#\n")
    (codes "subject_id\tpredicate_id\tobject_id\tconfidence\n") (omega arith) (omega arith) (omega arith)
    (lines_for rows_of n) (lines_short rows_of rows_short n few)
