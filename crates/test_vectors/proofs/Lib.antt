mod Signs
