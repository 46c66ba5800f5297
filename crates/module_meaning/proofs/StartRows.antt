-- Runs of small folders, computed: each starting value and form that no other row has. A second row with one unit of fuel
-- less runs out of it, so the rows fix what each form costs.
use Rattle.std.specs.Prelude.{◌≡◌, ℕ, List, [], ◌∷◌, Option, Some, None, true, false, codes}
use Rattle.std.proofs.Common.{refl}
use Rattle.rotor_base.specs.declared.place.Place.{Place}
use Rattle.rotor_base.specs.declared.token.Class.TheVariants as class
use Rattle.ml_trees.specs.declared.fixed.Fixed.TheVariants as key
use Rattle.ml_trees.specs.declared.word.Bracket.TheVariants as bracket
use Rattle.ml_trees.specs.Tok.{Name, fixed, placed, word}
use Rattle.ml_trees.specs.Tree.{PlainName, AnyPat, ValuePat, LiteralPat, UnitPat, PlainVariable, LocalPath, no_local, more_local, Seq}
use Rattle.ml_trees.specs.Tree.{LetModule, Match, If, Chain, Minus, Apply, Postfix, Prefixed, Literal, BoolExpr, Value, UnitExpr, Paren}
use Rattle.ml_trees.specs.Tree.{ListExpr, While, For, no_link, more_link, no_expr, some_expr, no_else, or_else, or_if, PlainBinding}
use Rattle.ml_trees.specs.Tree.{AppliedBinding, no_binding, CaseOf, no_case, more_case, Positional, Labelled, no_argument, more_argument}
use Rattle.ml_trees.specs.Tree.{PatternParam, no_param, more_param, IndexPart, no_part, more_part, UpperName, Struct, NamedParam}
use Rattle.ml_trees.specs.Tree.{no_functor_param, more_functor_param, Sig, no_type, ValueItem, ModuleItem, no_item, more_item, ValSig}
use Rattle.ml_trees.specs.Tree.{no_sig_item, more_sig_item, Body, FileTree, UnitTree}
use Rattle.module_meaning.specs.Run.{run, Finished, Stopped, OutOfFuel, WasUnrun}

abbrev n : ℕ → List ℕ → Name
n at text = record { at = at; text = text }

abbrev u : List ℕ → Option FileTree → Option FileTree → UnitTree
u x b f = record { name = x; body = b; face = f }

abbrev pl : ℕ → ℕ → Place
pl f t = record { file = f; token = t }

-- `let () = ignore 1; print_string (if not false then "t" else "f")`
abbrev p_not_ignore : List UnitTree
p_not_ignore = (u (codes "A") (Some (Body 0
    (more_item (ValueItem 1 false (PlainBinding (UnitPat 2) None 4 (Seq (Apply (Value [] (PlainName (n 5 (codes "ignore"))))
    (more_argument (Positional (Literal class.Int (n 6 (codes "1")))) no_argument)) (more_link (fixed key.Semicolon) (Apply
    (Value [] (PlainName (n 8 (codes "print_string")))) (more_argument (Positional (Paren 9 (If 10 (Apply (Value [] (PlainName (n
    11 (codes "not")))) (more_argument (Positional (BoolExpr 12 false)) no_argument)) (Literal class.Text (n 14 (34 ∷ 116 ∷ 34 ∷
    []))) (or_else (Literal class.Text (n 16 (34 ∷ 102 ∷ 34 ∷ []))))))) no_argument)) no_link) false)) no_binding) no_item))) None) ∷ []

r_not_ignore : run 13 p_not_ignore ≡ Finished (codes "t")
r_not_ignore = refl

r_not_ignore_short : run 12 p_not_ignore ≡ Stopped [] OutOfFuel
r_not_ignore_short = refl

-- `let p = (1, 2) let () = print_int (fst p); print_int (snd p)`
abbrev p_pairs : List UnitTree
p_pairs = (u (codes "A") (Some (Body 0
    (more_item (ValueItem 1 false (PlainBinding (ValuePat (PlainName (n 2 (codes "p")))) None 3 (Paren 4 (Chain 4 (Literal
    class.Int (n 5 (codes "1"))) (more_link (fixed key.Comma) (Literal class.Int (n 7 (codes "2"))) no_link)))) no_binding)
    (more_item (ValueItem 9 false (PlainBinding (UnitPat 10) None 12 (Seq (Apply (Value [] (PlainName (n 13 (codes
    "print_int")))) (more_argument (Positional (Paren 14 (Apply (Value [] (PlainName (n 15 (codes "fst")))) (more_argument
    (Positional (Value [] (PlainName (n 16 (codes "p"))))) no_argument)))) no_argument)) (more_link (fixed key.Semicolon) (Apply
    (Value [] (PlainName (n 19 (codes "print_int")))) (more_argument (Positional (Paren 20 (Apply (Value [] (PlainName (n 21
    (codes "snd")))) (more_argument (Positional (Value [] (PlainName (n 22 (codes "p"))))) no_argument)))) no_argument)) no_link)
    false)) no_binding) no_item)))) None) ∷ []

r_pairs : run 19 p_pairs ≡ Finished (codes "12")
r_pairs = refl

r_pairs_short : run 18 p_pairs ≡ Stopped (codes "1") OutOfFuel
r_pairs_short = refl

-- `let () = print_endline ("a" ^ string_of_int (~- 7)); print_int (- 2)`
abbrev p_lines : List UnitTree
p_lines = (u (codes "A") (Some (Body 0
    (more_item (ValueItem 1 false (PlainBinding (UnitPat 2) None 4 (Seq (Apply (Value [] (PlainName (n 5 (codes
    "print_endline")))) (more_argument (Positional (Paren 6 (Chain 8 (Literal class.Text (n 7 (34 ∷ 97 ∷ 34 ∷ []))) (more_link
    (word class.Infix (n 8 (codes "^"))) (Apply (Value [] (PlainName (n 9 (codes "string_of_int")))) (more_argument (Positional
    (Paren 10 (Prefixed (n 11 (codes "~-")) (Literal class.Int (n 12 (codes "7")))))) no_argument)) no_link)))) no_argument))
    (more_link (fixed key.Semicolon) (Apply (Value [] (PlainName (n 16 (codes "print_int")))) (more_argument (Positional (Paren
    17 (Minus (n 18 (codes "-")) (Literal class.Int (n 19 (codes "2")))))) no_argument)) no_link) false)) no_binding) no_item))) None) ∷ []

r_lines : run 20 p_lines ≡ Finished (97 ∷ 45 ∷ 55 ∷ 10 ∷ 45 ∷ 50 ∷ [])
r_lines = refl

r_lines_short : run 19 p_lines ≡ Stopped (97 ∷ 45 ∷ 55 ∷ 10 ∷ []) OutOfFuel
r_lines_short = refl

-- `let b x = print_string (if x then "t" else "f") let () = b (1 <= 1); b (1 <= 0); b (1 > 1); b (1 > 0); b (0 >= 1); b (1 >= 1)`
abbrev p_order : List UnitTree
p_order = (u (codes "A") (Some (Body 0
    (more_item (ValueItem 1 false (AppliedBinding (PlainName (n 2 (codes "b"))) (more_param (PatternParam (ValuePat (PlainName (n
    3 (codes "x"))))) no_param) None 4 (Apply (Value [] (PlainName (n 5 (codes "print_string")))) (more_argument (Positional
    (Paren 6 (If 7 (Value [] (PlainName (n 8 (codes "x")))) (Literal class.Text (n 10 (34 ∷ 116 ∷ 34 ∷ []))) (or_else (Literal
    class.Text (n 12 (34 ∷ 102 ∷ 34 ∷ []))))))) no_argument))) no_binding) (more_item (ValueItem 14 false (PlainBinding (UnitPat
    15) None 17 (Seq (Apply (Value [] (PlainName (n 18 (codes "b")))) (more_argument (Positional (Paren 19 (Chain 7 (Literal
    class.Int (n 20 (codes "1"))) (more_link (word class.Infix (n 21 (codes "<="))) (Literal class.Int (n 22 (codes "1")))
    no_link)))) no_argument)) (more_link (fixed key.Semicolon) (Apply (Value [] (PlainName (n 25 (codes "b")))) (more_argument
    (Positional (Paren 26 (Chain 7 (Literal class.Int (n 27 (codes "1"))) (more_link (word class.Infix (n 28 (codes "<=")))
    (Literal class.Int (n 29 (codes "0"))) no_link)))) no_argument)) (more_link (fixed key.Semicolon) (Apply (Value [] (PlainName
    (n 32 (codes "b")))) (more_argument (Positional (Paren 33 (Chain 7 (Literal class.Int (n 34 (codes "1"))) (more_link (word
    class.Infix (n 35 (codes ">"))) (Literal class.Int (n 36 (codes "1"))) no_link)))) no_argument)) (more_link (fixed
    key.Semicolon) (Apply (Value [] (PlainName (n 39 (codes "b")))) (more_argument (Positional (Paren 40 (Chain 7 (Literal
    class.Int (n 41 (codes "1"))) (more_link (word class.Infix (n 42 (codes ">"))) (Literal class.Int (n 43 (codes "0")))
    no_link)))) no_argument)) (more_link (fixed key.Semicolon) (Apply (Value [] (PlainName (n 46 (codes "b")))) (more_argument
    (Positional (Paren 47 (Chain 7 (Literal class.Int (n 48 (codes "0"))) (more_link (word class.Infix (n 49 (codes ">=")))
    (Literal class.Int (n 50 (codes "1"))) no_link)))) no_argument)) (more_link (fixed key.Semicolon) (Apply (Value [] (PlainName
    (n 53 (codes "b")))) (more_argument (Positional (Paren 54 (Chain 7 (Literal class.Int (n 55 (codes "1"))) (more_link (word
    class.Infix (n 56 (codes ">="))) (Literal class.Int (n 57 (codes "1"))) no_link)))) no_argument)) no_link))))) false))
    no_binding) no_item)))) None) ∷ []

r_order : run 75 p_order ≡ Finished (codes "tfftft")
r_order = refl

r_order_short : run 74 p_order ≡ Stopped (codes "tfftf") OutOfFuel
r_order_short = refl

-- `let () = print_string (if [1] @ [2] = [1; 2] then "t" else "f")`
abbrev p_lists : List UnitTree
p_lists = (u (codes "A") (Some (Body 0
    (more_item (ValueItem 1 false (PlainBinding (UnitPat 2) None 4 (Apply (Value [] (PlainName (n 5 (codes "print_string"))))
    (more_argument (Positional (Paren 6 (If 7 (Chain 7 (Chain 8 (ListExpr 8 bracket.List (Literal class.Int (n 9 (codes "1")))
    no_link false) (more_link (word class.Infix (n 11 (codes "@"))) (ListExpr 12 bracket.List (Literal class.Int (n 13 (codes
    "2"))) no_link false) no_link)) (more_link (placed key.Equals 15) (ListExpr 16 bracket.List (Literal class.Int (n 17 (codes
    "1"))) (more_link (fixed key.Semicolon) (Literal class.Int (n 19 (codes "2"))) no_link) false) no_link)) (Literal class.Text
    (n 22 (34 ∷ 116 ∷ 34 ∷ []))) (or_else (Literal class.Text (n 24 (34 ∷ 102 ∷ 34 ∷ []))))))) no_argument))) no_binding)
    no_item))) None) ∷ []

r_lists : run 22 p_lists ≡ Finished (codes "t")
r_lists = refl

r_lists_short : run 21 p_lists ≡ Stopped [] OutOfFuel
r_lists_short = refl

-- `let b x = print_string (if x then "t" else "f") let () = b (true || 1); b (false || true); b (false || false)`
abbrev p_either : List UnitTree
p_either = (u (codes "A") (Some (Body 0
    (more_item (ValueItem 1 false (AppliedBinding (PlainName (n 2 (codes "b"))) (more_param (PatternParam (ValuePat (PlainName (n
    3 (codes "x"))))) no_param) None 4 (Apply (Value [] (PlainName (n 5 (codes "print_string")))) (more_argument (Positional
    (Paren 6 (If 7 (Value [] (PlainName (n 8 (codes "x")))) (Literal class.Text (n 10 (34 ∷ 116 ∷ 34 ∷ []))) (or_else (Literal
    class.Text (n 12 (34 ∷ 102 ∷ 34 ∷ []))))))) no_argument))) no_binding) (more_item (ValueItem 14 false (PlainBinding (UnitPat
    15) None 17 (Seq (Apply (Value [] (PlainName (n 18 (codes "b")))) (more_argument (Positional (Paren 19 (Chain 5 (BoolExpr 20
    true) (more_link (word class.Infix (n 21 (codes "||"))) (Literal class.Int (n 22 (codes "1"))) no_link)))) no_argument))
    (more_link (fixed key.Semicolon) (Apply (Value [] (PlainName (n 25 (codes "b")))) (more_argument (Positional (Paren 26 (Chain
    5 (BoolExpr 27 false) (more_link (word class.Infix (n 28 (codes "||"))) (BoolExpr 29 true) no_link)))) no_argument))
    (more_link (fixed key.Semicolon) (Apply (Value [] (PlainName (n 32 (codes "b")))) (more_argument (Positional (Paren 33 (Chain
    5 (BoolExpr 34 false) (more_link (word class.Infix (n 35 (codes "||"))) (BoolExpr 36 false) no_link)))) no_argument))
    no_link)) false)) no_binding) no_item)))) None) ∷ []

r_either : run 38 p_either ≡ Finished (codes "ttf")
r_either = refl

r_either_short : run 37 p_either ≡ Stopped (codes "tt") OutOfFuel
r_either_short = refl

-- `let u = if true then 5 let v = if false then 5 let w = if false then 1 else if true then 2`
-- `let () = print_string (if (u = () && v = ()) && w = () then "t" else "f")`
abbrev p_no_else : List UnitTree
p_no_else = (u (codes "A") (Some (Body 0
    (more_item (ValueItem 1 false (PlainBinding (ValuePat (PlainName (n 2 (codes "u")))) None 3 (If 4 (BoolExpr 5 true) (Literal
    class.Int (n 7 (codes "5"))) no_else)) no_binding) (more_item (ValueItem 8 false (PlainBinding (ValuePat (PlainName (n 9
    (codes "v")))) None 10 (If 11 (BoolExpr 12 false) (Literal class.Int (n 14 (codes "5"))) no_else)) no_binding) (more_item
    (ValueItem 15 false (PlainBinding (ValuePat (PlainName (n 16 (codes "w")))) None 17 (If 18 (BoolExpr 19 false) (Literal
    class.Int (n 21 (codes "1"))) (or_if 23 (BoolExpr 24 true) (Literal class.Int (n 26 (codes "2"))) no_else))) no_binding)
    (more_item (ValueItem 27 false (PlainBinding (UnitPat 28) None 30 (Apply (Value [] (PlainName (n 31 (codes "print_string"))))
    (more_argument (Positional (Paren 32 (If 33 (Chain 6 (Paren 34 (Chain 6 (Chain 7 (Value [] (PlainName (n 35 (codes "u"))))
    (more_link (placed key.Equals 36) (UnitExpr 37) no_link)) (more_link (word class.Infix (n 39 (codes "&&"))) (Chain 7 (Value
    [] (PlainName (n 40 (codes "v")))) (more_link (placed key.Equals 41) (UnitExpr 42) no_link)) no_link))) (more_link (word
    class.Infix (n 45 (codes "&&"))) (Chain 7 (Value [] (PlainName (n 46 (codes "w")))) (more_link (placed key.Equals 47)
    (UnitExpr 48) no_link)) no_link)) (Literal class.Text (n 51 (34 ∷ 116 ∷ 34 ∷ []))) (or_else (Literal class.Text (n 53 (34 ∷
    102 ∷ 34 ∷ []))))))) no_argument))) no_binding) no_item)))))) None) ∷ []

r_no_else : run 30 p_no_else ≡ Finished (codes "t")
r_no_else = refl

r_no_else_short : run 29 p_no_else ≡ Stopped [] OutOfFuel
r_no_else_short = refl

-- `let () = if true then print_int 1 let () = if false then print_int 2`
abbrev p_no_else_effect : List UnitTree
p_no_else_effect = (u (codes "A") (Some (Body 0
    (more_item (ValueItem 1 false (PlainBinding (UnitPat 2) None 4 (If 5 (BoolExpr 6 true) (Apply (Value [] (PlainName (n 8
    (codes "print_int")))) (more_argument (Positional (Literal class.Int (n 9 (codes "1")))) no_argument)) no_else)) no_binding)
    (more_item (ValueItem 10 false (PlainBinding (UnitPat 11) None 13 (If 14 (BoolExpr 15 false) (Apply (Value [] (PlainName (n
    17 (codes "print_int")))) (more_argument (Positional (Literal class.Int (n 18 (codes "2")))) no_argument)) no_else))
    no_binding) no_item)))) None) ∷ []

r_no_else_effect : run 9 p_no_else_effect ≡ Finished (codes "1")
r_no_else_effect = refl

r_no_else_effect_short : run 8 p_no_else_effect ≡ Stopped (codes "1") OutOfFuel
r_no_else_effect_short = refl

-- `let f a = a.(0) let () = print_int 1; ignore (f 3)`
abbrev p_indexed : List UnitTree
p_indexed = (u (codes "A") (Some (Body 0
    (more_item (ValueItem 1 false (AppliedBinding (PlainName (n 2 (codes "f"))) (more_param (PatternParam (ValuePat (PlainName (n
    3 (codes "a"))))) no_param) None 4 (Postfix (Value [] (PlainName (n 5 (codes "a")))) (more_part (IndexPart 7 (Literal
    class.Int (n 8 (codes "0")))) no_part))) no_binding) (more_item (ValueItem 10 false (PlainBinding (UnitPat 11) None 13 (Seq
    (Apply (Value [] (PlainName (n 14 (codes "print_int")))) (more_argument (Positional (Literal class.Int (n 15 (codes "1"))))
    no_argument)) (more_link (fixed key.Semicolon) (Apply (Value [] (PlainName (n 17 (codes "ignore")))) (more_argument
    (Positional (Paren 18 (Apply (Value [] (PlainName (n 19 (codes "f")))) (more_argument (Positional (Literal class.Int (n 20
    (codes "3")))) no_argument)))) no_argument)) no_link) false)) no_binding) no_item)))) None) ∷ []

r_indexed : run 13 p_indexed ≡ Stopped (codes "1") (WasUnrun (pl 0 6))
r_indexed = refl

r_indexed_short : run 12 p_indexed ≡ Stopped (codes "1") OutOfFuel
r_indexed_short = refl

-- `let f x = x let () = print_int (f ~x:1)`
abbrev p_labelled : List UnitTree
p_labelled = (u (codes "A") (Some (Body 0
    (more_item (ValueItem 1 false (AppliedBinding (PlainName (n 2 (codes "f"))) (more_param (PatternParam (ValuePat (PlainName (n
    3 (codes "x"))))) no_param) None 4 (Value [] (PlainName (n 5 (codes "x"))))) no_binding) (more_item (ValueItem 6 false
    (PlainBinding (UnitPat 7) None 9 (Apply (Value [] (PlainName (n 10 (codes "print_int")))) (more_argument (Positional (Paren
    11 (Apply (Value [] (PlainName (n 12 (codes "f")))) (more_argument (Labelled (n 13 (codes "~x:")) (Literal class.Int (n 14
    (codes "1")))) no_argument)))) no_argument))) no_binding) no_item)))) None) ∷ []

r_labelled : run 5 p_labelled ≡ Stopped [] (WasUnrun (pl 0 13))
r_labelled = refl

r_labelled_short : run 4 p_labelled ≡ Stopped [] OutOfFuel
r_labelled_short = refl

-- `let r = ref 2 let () = while !r > 0 do r := !r - 1 done; for i = 1 to 3 do print_int i done; print_int !r`
abbrev p_loops : List UnitTree
p_loops = (u (codes "A") (Some (Body 0
    (more_item (ValueItem 1 false (PlainBinding (ValuePat (PlainName (n 2 (codes "r")))) None 3 (Apply (Value [] (PlainName (n 4
    (codes "ref")))) (more_argument (Positional (Literal class.Int (n 5 (codes "2")))) no_argument))) no_binding) (more_item
    (ValueItem 6 false (PlainBinding (UnitPat 7) None 9 (Seq (While 10 (Chain 7 (Prefixed (n 11 (codes "!")) (Value [] (PlainName
    (n 12 (codes "r"))))) (more_link (word class.Infix (n 13 (codes ">"))) (Literal class.Int (n 14 (codes "0"))) no_link))
    (Chain 3 (Value [] (PlainName (n 16 (codes "r")))) (more_link (word class.Mark (n 17 (codes ":="))) (Chain 10 (Prefixed (n 18
    (codes "!")) (Value [] (PlainName (n 19 (codes "r"))))) (more_link (word class.Infix (n 20 (codes "-"))) (Literal class.Int
    (n 21 (codes "1"))) no_link)) no_link))) (more_link (fixed key.Semicolon) (For 24 (PlainVariable (n 25 (codes "i"))) 26
    (Literal class.Int (n 27 (codes "1"))) false (Literal class.Int (n 29 (codes "3"))) (Apply (Value [] (PlainName (n 31 (codes
    "print_int")))) (more_argument (Positional (Value [] (PlainName (n 32 (codes "i"))))) no_argument))) (more_link (fixed
    key.Semicolon) (Apply (Value [] (PlainName (n 35 (codes "print_int")))) (more_argument (Positional (Prefixed (n 36 (codes
    "!")) (Value [] (PlainName (n 37 (codes "r")))))) no_argument)) no_link)) false)) no_binding) no_item)))) None) ∷ []

r_loops : run 52 p_loops ≡ Finished (codes "1230")
r_loops = refl

r_loops_short : run 51 p_loops ≡ Stopped (codes "123") OutOfFuel
r_loops_short = refl

-- `let rec f x = match x with 0 -> 1 | n when n > 5 -> 7 | _ -> f (x - 1) let () = print_int (f 2); print_int (f 9)`
abbrev p_matched : List UnitTree
p_matched = (u (codes "A") (Some (Body 0
    (more_item (ValueItem 1 true (AppliedBinding (PlainName (n 3 (codes "f"))) (more_param (PatternParam (ValuePat (PlainName (n
    4 (codes "x"))))) no_param) None 5 (Match 6 (Value [] (PlainName (n 7 (codes "x")))) false (CaseOf (LiteralPat class.Int (n 9
    (codes "0"))) no_expr (Literal class.Int (n 11 (codes "1")))) (more_case (CaseOf (ValuePat (PlainName (n 13 (codes "n"))))
    (some_expr (Chain 7 (Value [] (PlainName (n 15 (codes "n")))) (more_link (word class.Infix (n 16 (codes ">"))) (Literal
    class.Int (n 17 (codes "5"))) no_link))) (Literal class.Int (n 19 (codes "7")))) (more_case (CaseOf (AnyPat 21) no_expr
    (Apply (Value [] (PlainName (n 23 (codes "f")))) (more_argument (Positional (Paren 24 (Chain 10 (Value [] (PlainName (n 25
    (codes "x")))) (more_link (word class.Infix (n 26 (codes "-"))) (Literal class.Int (n 27 (codes "1"))) no_link))))
    no_argument))) no_case)))) no_binding) (more_item (ValueItem 29 false (PlainBinding (UnitPat 30) None 32 (Seq (Apply (Value
    [] (PlainName (n 33 (codes "print_int")))) (more_argument (Positional (Paren 34 (Apply (Value [] (PlainName (n 35 (codes
    "f")))) (more_argument (Positional (Literal class.Int (n 36 (codes "2")))) no_argument)))) no_argument)) (more_link (fixed
    key.Semicolon) (Apply (Value [] (PlainName (n 39 (codes "print_int")))) (more_argument (Positional (Paren 40 (Apply (Value []
    (PlainName (n 41 (codes "f")))) (more_argument (Positional (Literal class.Int (n 42 (codes "9")))) no_argument))))
    no_argument)) no_link) false)) no_binding) no_item)))) None) ∷ []

r_matched : run 46 p_matched ≡ Finished (codes "17")
r_matched = refl

r_matched_short : run 45 p_matched ≡ Stopped (codes "1") OutOfFuel
r_matched_short = refl

-- `module F (X : sig val v : int end) = struct let w = X.v + 1 end module A = struct let v = 4 end let () =`
-- `let module X = F (A) in print_int X.w`
abbrev p_applied : List UnitTree
p_applied = (u (codes "A") (Some (Body 0
    (more_item (ModuleItem 1 (UpperName (n 2 (codes "F"))) (more_functor_param (NamedParam 3 (UpperName (n 4 (codes "X"))) (Sig 6
    (more_sig_item (ValSig (PlainName (n 8 (codes "v"))) ((word class.Lower (n 10 (codes "int"))) ∷ [])) no_sig_item)))
    no_functor_param) no_type 13 (Struct 14 (more_item (ValueItem 15 false (PlainBinding (ValuePat (PlainName (n 16 (codes
    "w")))) None 17 (Chain 10 (Value ((n 18 (codes "X")) ∷ []) (PlainName (n 20 (codes "v")))) (more_link (word class.Infix (n 21
    (codes "+"))) (Literal class.Int (n 22 (codes "1"))) no_link))) no_binding) no_item))) (more_item (ModuleItem 24 (UpperName
    (n 25 (codes "A"))) no_functor_param no_type 26 (Struct 27 (more_item (ValueItem 28 false (PlainBinding (ValuePat (PlainName
    (n 29 (codes "v")))) None 30 (Literal class.Int (n 31 (codes "4")))) no_binding) no_item))) (more_item (ValueItem 33 false
    (PlainBinding (UnitPat 34) None 36 (LetModule 37 38 (n 38 (codes "X")) 40 (LocalPath ((n 41 (codes "F")) ∷ []) (more_local 42
    (LocalPath ((n 43 (codes "A")) ∷ []) no_local) no_local)) (Apply (Value [] (PlainName (n 46 (codes "print_int"))))
    (more_argument (Positional (Value ((n 47 (codes "X")) ∷ []) (PlainName (n 49 (codes "w"))))) no_argument)))) no_binding)
    no_item))))) None) ∷ []

r_applied : run 18 p_applied ≡ Finished (codes "5")
r_applied = refl

r_applied_short : run 17 p_applied ≡ Stopped [] OutOfFuel
r_applied_short = refl
