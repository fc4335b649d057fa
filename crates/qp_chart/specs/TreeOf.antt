-- What an expression says, by how it is made.
use Rattle.qp_chart.specs.Tree.{Tree, Num, Var, Ok, Me, Par, One, Two}
use Rattle.qp_chart.specs.declared.expression.Node.{Node}
use Rattle.qp_chart.specs.declared.expression.Node.TheVariants as node

abbrev pub tree_of : Node → Tree
tree_of (node.Num n) = Num n
tree_of (node.Var v) = Var v
tree_of node.Ok = Ok
tree_of node.Me = Me
tree_of (node.Par j) = Par j
tree_of (node.One op x) = One op x.value
tree_of (node.Two op x y) = Two op x.value y.value
